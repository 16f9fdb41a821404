pub mod Shapes
pub mod Carves
pub mod Grants
pub mod GrantLaws

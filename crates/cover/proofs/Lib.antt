pub mod Leaves
pub mod SumLaws
pub mod Covered
pub mod Points

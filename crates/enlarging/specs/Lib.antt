pub mod Ready
pub mod GrowLaws

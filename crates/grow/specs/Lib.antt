pub mod Grow
pub mod GrowLaws
pub mod GrowWhen

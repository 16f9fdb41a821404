pub mod ClimbLaws
pub mod Climbable

pub mod Lone
pub mod LoneLaws

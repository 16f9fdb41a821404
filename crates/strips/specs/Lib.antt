pub mod Strips
pub mod StripLaws

pub mod Climbs
pub mod Frees
pub mod FreeLaws

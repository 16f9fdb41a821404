pub mod Ways
pub mod WayLaws

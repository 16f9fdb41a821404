pub mod Crossing
pub mod Promises
pub mod Stretching
pub mod Whole
pub mod Changed
pub mod Appending
pub mod Both

pub mod Grows
pub mod Refusals

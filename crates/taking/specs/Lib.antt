pub mod Allocations
pub mod Ready
pub mod ReadyLaws

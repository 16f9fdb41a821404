pub mod Calls
pub mod Answered
pub mod Demand1
pub mod When
pub mod Demand2
pub mod Demand3
pub mod NeverHurts
pub mod Sizes

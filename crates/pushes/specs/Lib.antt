pub mod Pushes
pub mod Sweeps
pub mod SweepLaws
pub mod PushLaws

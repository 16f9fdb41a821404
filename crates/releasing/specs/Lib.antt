pub mod Releasable
pub mod ReleaseLaws

pub mod Ready
pub mod AcrossLaws

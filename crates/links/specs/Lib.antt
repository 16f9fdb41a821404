pub mod AgreeLaws
pub mod FirstLaws
pub mod Held
pub mod LinkLaws
pub mod LinkedLaws
pub mod Links
pub mod MergedLaws
pub mod TestLaws

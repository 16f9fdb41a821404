pub mod AgreeLaws
pub mod FirstLaws
pub mod LinkedLaws
pub mod MergedLaws
pub mod SpareLaws
pub mod TurnLaws

pub mod CutLaws
pub mod Ready

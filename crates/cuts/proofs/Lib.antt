pub mod Product
pub mod PieceLaws
pub mod CutLaws

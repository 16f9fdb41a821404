pub mod Cuts
pub mod PieceLaws

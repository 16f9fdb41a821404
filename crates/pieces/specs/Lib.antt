pub mod PieceLaws
pub mod Pieces

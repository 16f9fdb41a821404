pub mod TreeLaws
pub mod Trees

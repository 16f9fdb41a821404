pub mod MarkLaws
pub mod Marks

pub mod Choices
pub mod ChoiceLaws

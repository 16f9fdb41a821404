pub mod Search
pub mod Answers
pub mod FindLaws

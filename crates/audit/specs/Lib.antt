pub mod Answers
pub mod Audited

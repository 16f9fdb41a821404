pub mod AnswerLaws
pub mod AuditLaws
pub mod EntryLaws
pub mod Exact

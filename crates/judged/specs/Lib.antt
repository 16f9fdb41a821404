pub mod JudgeLaws
pub mod Judged
pub mod Verdicts
pub mod VerdictLaws

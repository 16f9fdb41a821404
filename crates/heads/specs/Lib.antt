pub mod Words
pub mod SignedLaws
pub mod WordLaws
pub mod Once

pub mod RoundingLaws
pub mod RequestLaws

pub mod PlaceLaws
pub mod RuleLaws
pub mod WalkLaws

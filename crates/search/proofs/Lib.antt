pub mod FindLaws
pub mod SearchLaws

pub mod Rounding
pub mod PowerLaws
pub mod RequestLaws

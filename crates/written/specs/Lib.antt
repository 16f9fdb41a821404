pub mod Entries
pub mod Fills
pub mod WriteLaws

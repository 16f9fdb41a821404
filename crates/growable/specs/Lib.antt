pub mod Growable
pub mod GrowableLaws
pub mod Needs

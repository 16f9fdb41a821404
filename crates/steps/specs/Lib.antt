pub mod State
pub mod Spares
pub mod SpareLaws

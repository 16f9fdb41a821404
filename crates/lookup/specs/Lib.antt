pub mod HeldLaws
pub mod Lookup
pub mod LookupWhen

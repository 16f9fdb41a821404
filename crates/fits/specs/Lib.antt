pub mod Suits
pub mod Scans
pub mod Thinned
pub mod ScanLaws
pub mod Candidates

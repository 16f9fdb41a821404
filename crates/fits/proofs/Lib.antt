pub mod Candidates
pub mod ScanLaws

pub mod Days
pub mod Ledger
pub mod LedgerHolds

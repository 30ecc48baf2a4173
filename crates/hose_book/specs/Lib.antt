pub mod Ledger
pub mod steps

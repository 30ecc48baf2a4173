pub mod Accounts
pub mod Session
pub mod steps

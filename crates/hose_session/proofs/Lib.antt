pub mod Accounting
mod Completing
mod Conversing
mod Exchanging

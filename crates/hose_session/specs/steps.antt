-- Steps of proofs: what no clause of the top calls names.
pub mod Accounts
pub mod Ending
pub mod Exchanges
pub mod Session

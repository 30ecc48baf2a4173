-- Steps of proofs: what no clause of the top calls names.
pub mod Changes
pub mod Commit
pub mod GoingOn
pub mod Ledger
pub mod Limits
pub mod Refusal
pub mod Serving

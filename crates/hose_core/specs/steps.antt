-- Steps of proofs: what no clause of the top calls names.
pub mod Bound
pub mod Claiming
pub mod Holding
pub mod Planning
pub mod Service
pub mod Stepping
pub mod Telling

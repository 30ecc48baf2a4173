-- Steps of proofs: what no clause of the top calls names.
pub mod Hose
pub mod Limits
pub mod Name
pub mod Naming
pub mod Ranges
pub mod Row

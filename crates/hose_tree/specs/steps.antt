-- Steps of proofs: what no clause of the top calls names.
pub mod Amounts
pub mod Attached
pub mod Nodes
pub mod Peeling
pub mod Rates
pub mod Reach
pub mod Side

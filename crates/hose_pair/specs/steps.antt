-- Steps of proofs: what no clause of the top calls names.
pub mod Meeting
pub mod Orders
pub mod Standing
pub mod Written

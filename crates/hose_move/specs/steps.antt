-- Steps of proofs: what no clause of the top calls names.
pub mod Collecting
pub mod Committing
pub mod Renumbering
pub mod Stating

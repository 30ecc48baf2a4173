-- Steps of proofs: what no clause of the top calls names.
pub mod ServerDoor

-- Steps of proofs: what no clause of the top calls names.
pub mod MemDoors
pub mod MemTrace
pub mod Told

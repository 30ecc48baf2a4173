-- Steps of proofs: what no clause of the top calls names.
pub mod Hashing
pub mod Reading
pub mod Taken
pub mod TopologyText

-- Steps of proofs: what no clause of the top calls names.
pub mod Fields
pub mod Limits
pub mod Reading
pub mod Spelling

-- Steps of proofs: what no clause of the top calls names.
pub mod Along
pub mod Closing
pub mod Keeping
pub mod Providing
pub mod Sharing
pub mod Turns

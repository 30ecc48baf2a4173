-- Steps of proofs: what no clause of the top calls names.
pub mod Answering
pub mod Hosting
pub mod Linking
pub mod Sessions
pub mod Shown

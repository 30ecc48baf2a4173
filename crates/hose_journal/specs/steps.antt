-- Steps of proofs: what no clause of the top calls names.
pub mod AtGate
pub mod Chain
pub mod Entries
pub mod Gates
pub mod Image
pub mod Journal
pub mod Layout
pub mod Moments
pub mod Opening
pub mod Reading

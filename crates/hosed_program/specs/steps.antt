-- Steps of proofs: what no clause of the top calls names.
pub mod Given
pub mod HostWords
pub mod Rules

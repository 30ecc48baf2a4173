-- Steps of proofs: what no clause of the top calls names.
pub mod Said
pub mod Talk
pub mod TalkFaults

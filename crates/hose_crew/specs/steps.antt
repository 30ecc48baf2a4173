-- Steps of proofs: what no clause of the top calls names.
pub mod Crew
pub mod Desk
pub mod Hands

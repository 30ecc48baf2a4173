-- Steps of proofs: what no clause of the top calls names.
pub mod Bells
pub mod Faults
pub mod Held
pub mod History
pub mod Known
pub mod Limits
pub mod Line
pub mod Places
pub mod Rule
pub mod Steps
pub mod Tries
pub mod Views

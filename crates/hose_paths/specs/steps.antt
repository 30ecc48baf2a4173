-- Steps of proofs: what no clause of the top calls names.
pub mod Alike
pub mod Chain
pub mod Kept
pub mod Queue
pub mod Rows
pub mod Table

-- Steps of proofs: what no clause of the top calls names.
pub mod CabinetText
pub mod Ending
pub mod Failing
pub mod Fault
pub mod Journal
pub mod JsonRead
pub mod LastLine
pub mod Parts
pub mod Unopened

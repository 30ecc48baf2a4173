-- Steps of proofs: what no clause of the top calls names.
pub mod Adding
pub mod CertLine
pub mod Draft
pub mod Fault
pub mod Following
pub mod Judging
pub mod Reading
pub mod Statement
pub mod Taking
pub mod Verdict
pub mod Written

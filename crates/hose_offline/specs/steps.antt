-- Steps of proofs: what no clause of the top calls names.
pub mod Answering
pub mod AuditOutcome
pub mod GenOutcome
pub mod Generating
pub mod ProveOutcome
pub mod SheetLine
pub mod Talking
pub mod TalkingOnDisk
pub mod Tally

-- Steps of proofs: what no clause of the top calls names.
pub mod Answer
pub mod Cheapest
pub mod Decision
pub mod Heaviest
pub mod History
pub mod Live
pub mod Once
pub mod Plan
pub mod ReplyKind
pub mod Route
pub mod Service
pub mod Tracks
pub mod Tree
pub mod VpnIds
pub mod Walk

-- Steps of proofs: what no clause of the top calls names.
pub mod Arriving
pub mod BufferInside
pub mod Buffered
pub mod Chained
pub mod Ends
pub mod Event
pub mod Exchanging
pub mod Follower
pub mod Lines
pub mod Offering
pub mod Replication
pub mod Shipping
pub mod Splitting

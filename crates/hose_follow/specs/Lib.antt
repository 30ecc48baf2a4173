pub mod Answers
pub mod Ends
pub mod Follower
pub mod Layout
pub mod Packet
pub mod Replication
pub mod steps

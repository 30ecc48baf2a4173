pub mod HostLines
pub mod HostReplies
pub mod Hosting
pub mod Tally
pub mod steps

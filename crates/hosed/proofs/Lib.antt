pub mod Connections
pub mod Outcomes
pub mod Served
pub mod Sharing

pub mod Ids
pub mod Judging
pub mod Loads
pub mod Moving
mod Newest
mod Operated
pub mod Releasing
pub mod Reserved
mod Served
pub mod Tracking

mod Bound
mod Entries
pub mod Passes
mod Provided
mod Recently
mod Turned

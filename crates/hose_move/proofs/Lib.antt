mod Beginnings
mod Changes
mod Collected
mod Committed
mod Compared
pub mod Complete
mod Kept
mod LiveSound
mod Parts
mod Readings
mod Renumbered
mod Statements

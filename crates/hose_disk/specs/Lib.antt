pub mod Cabinet
pub mod Disk
pub mod steps

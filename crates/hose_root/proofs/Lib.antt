pub mod Best
pub mod Weighing

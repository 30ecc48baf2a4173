pub mod Inputs
pub mod Retold
pub mod StillReading
pub mod Talks

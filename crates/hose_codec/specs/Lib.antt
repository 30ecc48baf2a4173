pub mod Fields
pub mod Limits
pub mod Spelling
pub mod steps

pub mod Talk
pub mod steps

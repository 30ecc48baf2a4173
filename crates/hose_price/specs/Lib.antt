pub mod Limits
pub mod Pricing
pub mod Sheet
pub mod steps

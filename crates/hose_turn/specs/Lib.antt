pub mod Places
pub mod Faults
pub mod Known
pub mod steps

pub mod CertLine
pub mod Certificate
pub mod Limits
pub mod Rules
pub mod Verdict
pub mod Written
pub mod steps

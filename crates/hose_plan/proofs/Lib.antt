pub mod Deciding
pub mod EqualGrounds
pub mod NamedLinks
pub mod Rooted
pub mod Weights

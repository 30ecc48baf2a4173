-- what is public is for the crates above too
pub mod Endpoints
pub mod Growth
pub mod Members
pub mod NodesByName
pub mod Ordered

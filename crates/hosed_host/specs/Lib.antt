pub mod HostBook
pub mod HostDoors
pub mod HostOutcome
pub mod HostWhy
pub mod steps

pub mod Failing
pub mod Hosed
pub mod Offline
pub mod ServeOutcome
pub mod ServerDoor
pub mod steps

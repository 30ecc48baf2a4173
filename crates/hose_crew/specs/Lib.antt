pub mod Crew
pub mod steps

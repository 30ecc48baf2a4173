pub mod HostNaming
pub mod HostWords
pub mod Limits
pub mod Naming
pub mod ProgramWords
pub mod steps

pub mod Commands
mod EndsSeen
mod HostCommands
mod HostDoors
pub mod HostShapes
mod Names
pub mod ProgramShapes

pub mod Connections
pub mod Count
pub mod Frame
pub mod Stream
pub mod Writing
pub mod steps

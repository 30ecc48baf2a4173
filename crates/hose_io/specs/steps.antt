-- Steps of proofs: what no clause of the top calls names.
pub mod Borrowed
pub mod Calls
pub mod Connections
pub mod Count
pub mod DoorState
pub mod FailingCalls
pub mod Faults
pub mod Filling
pub mod Gather
pub mod SinkState
pub mod SourceState
pub mod StdState
pub mod Stream
pub mod Writing

-- Steps of proofs: what no clause of the top calls names.
pub mod Cabinet
pub mod CabinetState
pub mod DirState
pub mod Disk
pub mod Images
pub mod MemState
pub mod Picks
pub mod Recording
pub mod Untold

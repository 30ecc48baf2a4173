-- Definitions that no clause of the top calls names yet.
pub mod History
pub mod LedStore
pub mod Standby
pub mod Taking

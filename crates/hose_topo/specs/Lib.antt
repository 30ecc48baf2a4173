pub mod Canonical
pub mod Reading
pub mod TopologyText
pub mod steps

pub mod JsonValue
pub mod JsonTopology
pub mod Refused

pub mod CanonicalText
pub mod FirstLineText
mod LinesTold
pub mod LinkLine
pub mod NamesTold
pub mod TopologyLines
pub mod TopologyReading
pub mod WrongWord

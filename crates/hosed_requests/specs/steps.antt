-- Steps of proofs: what no clause of the top calls names.
pub mod Arguments
pub mod HostForms
pub mod HostReading
pub mod Naming
pub mod ProgramWords
pub mod Reading

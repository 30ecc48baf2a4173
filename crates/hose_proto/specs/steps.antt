-- Steps of proofs: what no clause of the top calls names.
pub mod Choices
pub mod CommandForms
pub mod EndWords
pub mod Places
pub mod Reading

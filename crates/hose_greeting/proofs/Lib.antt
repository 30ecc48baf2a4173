pub mod Greetings
pub mod Shown

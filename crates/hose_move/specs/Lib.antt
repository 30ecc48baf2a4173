pub mod Changing
pub mod Moving
pub mod Stating
pub mod steps

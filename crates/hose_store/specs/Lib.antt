pub mod Beginning
pub mod Entries
pub mod Opening
pub mod Recovery
pub mod Replaying
pub mod Store
pub mod steps

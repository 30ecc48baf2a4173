pub mod Doors
pub mod Happening
pub mod Story
pub mod steps

pub mod Calling
pub mod Frames
pub mod Gathering
pub mod Lists
pub mod Parts
pub mod Pieces
pub mod Streams

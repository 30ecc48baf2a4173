mod Placed
mod Answered
mod Marks
pub mod Hosted
mod Linked

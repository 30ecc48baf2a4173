pub mod Command
pub mod EndWords
pub mod Places
pub mod Replies
pub mod ReplyText
pub mod ReplyWords
pub mod steps

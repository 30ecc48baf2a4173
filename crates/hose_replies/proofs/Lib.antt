pub mod Failing
pub mod FieldLemmas
pub mod Items
pub mod ListsUntil
pub mod ReplyLemmas
pub mod Rising
pub mod Words

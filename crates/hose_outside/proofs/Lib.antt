pub mod Failing
pub mod Journals
mod JsonLemmas
pub mod Lending
pub mod Named
pub mod Outcomes
pub mod Provided
pub mod PutBack
pub mod Texts
pub mod TextsRead
pub mod Told

mod Answering
mod Claimed
mod Customers
pub mod Decided
pub mod Earlier
pub mod HeldQuotes
pub mod Leading
mod PlannedEntries
mod ReleasedEntries
mod ServiceEntries
mod Stepped
mod SteppedOn
mod TakenQuotes
mod Told

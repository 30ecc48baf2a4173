pub mod Asking
mod Beginnings
mod Buffers
mod Ending
mod Exchanges
mod Follows
mod Leaders
mod Offers
mod Packets
pub mod Sent
mod Shipped
pub mod Splits

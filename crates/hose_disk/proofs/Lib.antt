pub mod Cabinets
pub mod Calls
pub mod Held
pub mod Images
pub mod Items
pub mod Picked

-- what is public is for the crates above too
pub mod Apart
pub mod Bounds
pub mod CanonicalPlans
mod CanonicalTrees
pub mod Carried
pub mod Carrying
pub mod Cheapest
mod Counting
pub mod Crossing
pub mod Distances
pub mod Entries
pub mod Epochs
mod Fitting
pub mod Fronts
mod Halves
pub mod Joined
mod LeastRoot
pub mod Lines
pub mod LiveIds
pub mod Lives
pub mod Numbers
mod Once
pub mod PairedOff
pub mod PlanWeight
pub mod Releases
pub mod Reservations
pub mod Rooms
pub mod Routes
pub mod Rows
pub mod Scripts
mod ShortWalks
pub mod Serving
pub mod Sold
pub mod Steps
pub mod Sums
mod TightTrees
pub mod TightWays
pub mod Tracked
pub mod Transcripts
pub mod Trees
pub mod Unique
pub mod VpnLists
pub mod Walks
pub mod Weights

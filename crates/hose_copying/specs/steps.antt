-- Steps of proofs: what no clause of the top calls names.
pub mod Following
pub mod MoveEnd
pub mod Moving
pub mod ShipOutcome

-- Steps of proofs: what no clause of the top calls names.
pub mod Becoming
pub mod Before
pub mod Beginning
pub mod Commit
pub mod Faults
pub mod Opening
pub mod ReadingFurther
pub mod Replaying
pub mod Store

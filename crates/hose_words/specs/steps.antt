-- Steps of proofs: what no clause of the top calls names.
pub mod Buffer
pub mod BufferInside
pub mod Cursor
pub mod Form
pub mod Grammar
pub mod Intake
pub mod Kept
pub mod Lines
pub mod Number
pub mod Reading
pub mod Saying

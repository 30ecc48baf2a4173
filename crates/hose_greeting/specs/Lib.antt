pub mod SessionLines
pub mod steps

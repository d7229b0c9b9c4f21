mod Examples
pub mod Returns
mod WholeLines

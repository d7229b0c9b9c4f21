pub mod Root
pub mod Cells
pub mod Accepted
mod Examples

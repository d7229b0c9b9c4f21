mod Kept
pub mod Sight
pub mod Openness
pub mod Rows
pub mod Unboxed
pub mod Removal
pub mod ClosingUp
pub mod Added
pub mod Edited

pub mod Causes
pub mod Faults
pub mod Gathered
pub mod Rows

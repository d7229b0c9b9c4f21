pub mod Bounds
pub mod Lines
pub mod Stretches
pub mod Measured
pub mod Extents
pub mod Rows

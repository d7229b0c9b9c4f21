pub mod Ranges
pub mod Ends
pub mod Ground
pub mod Walls
pub mod Screens
pub mod Law
pub mod NoEnds

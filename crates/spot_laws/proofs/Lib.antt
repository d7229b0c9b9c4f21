pub mod Factors
pub mod Spots
pub mod Spans
pub mod SameSpots

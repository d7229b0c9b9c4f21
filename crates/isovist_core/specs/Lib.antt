pub mod Steps
pub mod Headings
pub mod Gaps
pub mod Shown
pub mod Sightings
pub mod Areas
pub mod Sums

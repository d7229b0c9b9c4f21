mod Adding
mod Distinct
mod CornerPoints
mod DirtyCounts
mod Filters
mod Looking
mod Merging
mod Seeing
mod Stopping
mod Known
mod Gaps
mod Updating
pub mod Edits

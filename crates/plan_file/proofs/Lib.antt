pub mod Counts
mod FoundPlans
pub mod KnownBytes
mod PiecesLeft
mod Results
pub mod SaidExamples

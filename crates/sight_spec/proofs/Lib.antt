mod SightExamples
mod IsovistExamples
mod GraphExamples
pub mod Laws
pub mod Runs

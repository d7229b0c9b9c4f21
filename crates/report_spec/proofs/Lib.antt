mod TableExamples
mod OutputExamples
pub mod Laws
pub mod RepliesInParts

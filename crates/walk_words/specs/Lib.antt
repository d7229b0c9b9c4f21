pub mod WalkWords

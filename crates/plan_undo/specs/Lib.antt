pub mod History
pub mod Ways

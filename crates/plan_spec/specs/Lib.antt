pub mod Plan
pub mod Accepted
pub mod Refusals
pub mod Edits
pub mod Ranges
pub mod Grid

pub mod Dropped
pub mod Orders
pub mod Merged
pub mod Gaps

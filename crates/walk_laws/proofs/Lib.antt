pub mod Along
pub mod BadPoints
pub mod Fine
pub mod FirstStep
pub mod Hits
pub mod Steps
pub mod Walk
pub mod Law

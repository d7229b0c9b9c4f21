pub mod Removing
pub mod Moving
pub mod Refused

pub mod Lines
pub mod Ends
pub mod Stretches
pub mod Meetings
pub mod Apart
pub mod Joins

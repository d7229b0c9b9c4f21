pub mod Ends
pub mod Leads
pub mod Changes
pub mod Steps
pub mod Undoing

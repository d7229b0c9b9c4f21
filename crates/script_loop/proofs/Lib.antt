pub mod Replies
pub mod Reached

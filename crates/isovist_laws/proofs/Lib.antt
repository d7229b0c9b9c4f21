pub mod Firsts
pub mod Wedge
pub mod Between
pub mod Gaps
pub mod Places
pub mod Directions
pub mod Spanning
pub mod Meetings
pub mod Areas
pub mod Rounds
pub mod Inside
mod Examples

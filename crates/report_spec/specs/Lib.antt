pub mod Records
pub mod Tables
pub mod Replies
pub mod Trial
pub mod PlanFile
pub mod Output
pub mod Messages

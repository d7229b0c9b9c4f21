pub mod PlanWalks
pub mod Answers

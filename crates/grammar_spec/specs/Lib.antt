pub mod Arguments
pub mod PlanText
pub mod ScriptText

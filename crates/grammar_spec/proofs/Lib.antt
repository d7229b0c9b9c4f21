mod PlanExamples
mod ScriptExamples

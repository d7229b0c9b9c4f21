pub mod Figures
mod RefusalExamples

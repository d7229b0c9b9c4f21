mod Elements
mod VisitExamples

mod WalkExamples

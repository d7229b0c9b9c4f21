mod TextExamples
mod OutputExamples

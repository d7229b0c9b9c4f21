pub mod Places
pub mod FirstWord
pub mod FirstLine
pub mod PlanRead
pub mod Printed
pub mod PrintedNumbers
pub mod PrintedWords
pub mod PrintedItems
pub mod PrintedLengths
pub mod PrintedText
pub mod Shifts
pub mod SoundItems
mod ShownLines

pub mod DeskText
pub mod Desks
pub mod DeskOutput

pub mod Together
pub mod Places
pub mod Start
pub mod After
pub mod Among
mod Examples

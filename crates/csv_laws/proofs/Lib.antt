pub mod Written
pub mod Plain
mod Examples

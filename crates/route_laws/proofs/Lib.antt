pub mod Lists
pub mod Cuts
pub mod Pieces
pub mod Turns
mod Examples

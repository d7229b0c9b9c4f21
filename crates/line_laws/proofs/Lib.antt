pub mod Without
pub mod Corners
pub mod Updated
pub mod Laws
mod Examples

pub mod Endings
pub mod Placing
pub mod Without
pub mod Edits
pub mod Steps
pub mod Sectors
pub mod Corners
pub mod Begun
pub mod Bodies
pub mod HiddenBodies
mod Examples

pub mod Directions
pub mod Heights
pub mod Between
pub mod Scaled

pub mod Held
pub mod Parts
pub mod Touching
pub mod Crossing
pub mod Blocking
pub mod Within

pub mod Walls
pub mod LeftOfAll
pub mod RightOfOne
pub mod Polygons
pub mod Outer
pub mod Passing
pub mod Past
mod Examples

pub mod Scene
pub mod Sight
pub mod Visibility
pub mod Stops
pub mod Sweep
pub mod Isovist
pub mod Axial
pub mod Dirty

pub mod Causes
pub mod Limits
pub mod Obstacles
pub mod Screens
pub mod Routes
pub mod Grids
pub mod Outers
pub mod Items

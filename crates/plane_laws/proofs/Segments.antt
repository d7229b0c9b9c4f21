pub mod Touching
pub mod Apart
pub mod Shared
pub mod Separated

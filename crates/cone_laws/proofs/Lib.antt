pub mod Beside
pub mod Cones
pub mod Rounds
pub mod Law

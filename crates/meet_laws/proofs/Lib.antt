pub mod Identities
pub mod Values
pub mod Turning
pub mod Signs
pub mod Meeting
pub mod Within
pub mod Parallel
pub mod Parameters
pub mod Apart
pub mod Extents
pub mod Stretches
pub mod Along
mod Examples

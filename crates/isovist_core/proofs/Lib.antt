pub mod Sorting
pub mod Lists
pub mod Steps
pub mod Sectors
pub mod Shown
pub mod Between
pub mod Rounded

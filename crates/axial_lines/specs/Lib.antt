pub mod Found
pub mod Looks
pub mod Removal
pub mod SameEnds

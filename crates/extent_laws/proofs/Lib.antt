pub mod Hits
pub mod Reaches
pub mod Places
pub mod SameLines

pub mod Tests
pub mod Lists
pub mod Points
pub mod Segments
pub mod Law

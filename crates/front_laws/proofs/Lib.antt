pub mod Tests
pub mod Weights
pub mod Hits
pub mod InOrder
pub mod Lists
pub mod InFront

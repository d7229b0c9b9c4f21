pub mod Between
pub mod Apart
pub mod Plans
pub mod Standing
pub mod Ends
pub mod Beside
pub mod Through

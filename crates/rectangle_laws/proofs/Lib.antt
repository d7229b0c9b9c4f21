pub mod Apart
pub mod Simple
pub mod Within
mod Examples

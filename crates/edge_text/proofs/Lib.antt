pub mod Gathering
pub mod Ends
pub mod Numbers

pub mod NoFault
pub mod Parses

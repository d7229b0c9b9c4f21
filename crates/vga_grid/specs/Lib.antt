pub mod Rows
pub mod Sets
pub mod Edges
pub mod Openness

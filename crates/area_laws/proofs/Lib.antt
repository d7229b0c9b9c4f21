pub mod Area
pub mod Cells
pub mod Grid
pub mod Laws
pub mod Orientation
pub mod Rows
pub mod Sums

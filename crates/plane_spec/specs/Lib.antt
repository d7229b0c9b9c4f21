pub mod Lists
pub mod Vectors
pub mod Segments
pub mod Polygons
pub mod Cones
pub mod Fractions
pub mod RPoints
pub mod Boxes

pub mod Windings

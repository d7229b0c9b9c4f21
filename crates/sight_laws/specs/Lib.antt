pub mod Convex

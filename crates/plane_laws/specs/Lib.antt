pub mod Enlarged

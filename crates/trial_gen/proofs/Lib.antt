mod BoxNames
mod BoxByBox
mod Roots

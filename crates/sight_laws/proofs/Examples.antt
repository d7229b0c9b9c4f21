mod Blocking
mod Boxes
mod Inside
mod Plans

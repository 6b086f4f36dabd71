-- One shape narrowed by what is on the right side of a fixed text.
pub mod Freed
pub mod Narrowed

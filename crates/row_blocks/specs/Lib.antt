-- A shape's blocks, as sets of its positions tell of them.
pub mod Blocks

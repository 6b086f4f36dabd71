-- What rows of positions tell of two shapes that are read together.
pub mod Rows
pub mod Laid

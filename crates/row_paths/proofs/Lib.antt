-- The laws of rows of two shapes that are read together.
pub mod Reached
pub mod Left
pub mod Forth
pub mod Back
pub mod Told
pub mod Chars
pub mod Shapes
pub mod Lent
pub mod Laid

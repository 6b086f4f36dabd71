-- The laws of what is laid over a part, of lists, and of lent numbers and their blocks.
pub mod Laid
pub mod Shapes

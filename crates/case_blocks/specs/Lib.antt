-- Blocks without regard to case, and what the functions do with a shape's numbers.
pub mod Case
pub mod Code

-- Equality's first pass.
pub mod Forth

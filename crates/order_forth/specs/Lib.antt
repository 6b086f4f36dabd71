-- An order's first pass.
pub mod Forth

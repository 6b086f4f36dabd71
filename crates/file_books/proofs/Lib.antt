-- The laws of a book that was read.
pub mod Whole
pub mod Ready

-- The laws of the characters of a mark and of its borders.
pub mod Collect
pub mod Words
pub mod Borders

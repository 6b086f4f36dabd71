-- The laws of one character more.
pub mod Blocks

-- The laws of what a search has found.
pub mod Blocks
pub mod Say

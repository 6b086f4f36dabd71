-- The laws of blocks without regard to case.
pub mod Steps
pub mod Blocks

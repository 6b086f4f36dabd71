-- The laws of blocks that sets of positions tell of, and of the outputs that they make.
pub mod Blocks
pub mod Out

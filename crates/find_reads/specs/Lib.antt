-- What a search has found of the blocks that are read.
pub mod Reads

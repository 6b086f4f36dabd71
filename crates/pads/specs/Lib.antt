-- Two shapes read together, where one that has ended waits while the other goes on over padding; and what the pairs of
-- fillings give a block.
pub mod But
pub mod Pad
pub mod Collect

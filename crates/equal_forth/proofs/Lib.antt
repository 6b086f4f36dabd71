-- The laws of equality's first pass.
pub mod Pass

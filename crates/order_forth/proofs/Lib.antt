-- The laws of an order's first pass.
pub mod Pass

-- The laws of the states of an order's second pass.
pub mod Pass

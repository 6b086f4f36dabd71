-- The laws of an order's second pass.
pub mod Groups

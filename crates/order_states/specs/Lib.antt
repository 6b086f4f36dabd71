-- The states of an order's second pass.
pub mod States

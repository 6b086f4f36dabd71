-- The laws of one side of an order.
pub mod Keeping
pub mod Runs
pub mod Side

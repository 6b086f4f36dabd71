-- The laws of rows on one side of an order.
pub mod Evens
pub mod Rests
pub mod Passes
pub mod Known
pub mod Told

-- The laws of equality's second pass.
pub mod Rows
pub mod Pass

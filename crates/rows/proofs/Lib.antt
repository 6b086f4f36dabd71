-- The laws of rows.
pub mod Rows

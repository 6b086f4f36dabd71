-- What one step of equality's passes gives.
pub mod Chars

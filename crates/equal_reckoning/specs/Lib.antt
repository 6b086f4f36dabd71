-- Narrowing under equality as a function that computes.
pub mod Equal

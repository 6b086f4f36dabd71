-- Equality's second pass.
pub mod Back

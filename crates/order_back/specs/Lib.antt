-- An order's second pass.
pub mod Back

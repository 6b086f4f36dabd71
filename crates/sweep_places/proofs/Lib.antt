-- The laws of places of the quick sweep.
pub mod Back

-- The laws of one step.
pub mod Steps

-- The sweep's promise from its steps, and that the promise determines the outcome.
pub mod Sweeping

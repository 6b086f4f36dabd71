-- The laws that the sweep's code is proved by.
pub mod Whole
pub mod Meaning

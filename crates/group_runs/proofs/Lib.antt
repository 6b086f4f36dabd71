-- The laws of the run by groups.
pub mod Turns

-- The laws of passes over steps and over pairs of sets.
pub mod Steps
pub mod Closing

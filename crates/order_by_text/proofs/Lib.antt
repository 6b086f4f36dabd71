-- The laws of one side's narrowing.
pub mod Answers
pub mod Known
pub mod Sides

-- A sheet from its sections.
pub mod Whole

-- The guide of a fixed text: which side of it is right.
pub mod Sides
pub mod Guide

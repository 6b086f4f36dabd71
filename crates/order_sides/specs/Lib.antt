-- One side of an order: the texts of a shape against a fixed text.
pub mod Guide
pub mod Collect

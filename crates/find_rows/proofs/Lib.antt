-- The laws of the rows of a search.
pub mod Arrivals
pub mod Turns

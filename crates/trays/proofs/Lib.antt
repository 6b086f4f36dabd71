-- The laws of trays that other crates cite.
pub mod Filling
pub mod Determined

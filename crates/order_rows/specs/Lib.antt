-- One side of an order, told by sets of positions.
pub mod Rows

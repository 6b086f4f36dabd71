-- The laws of plain notions that all crates cite.
pub mod Plain
pub mod All
pub mod Tells
pub mod Items

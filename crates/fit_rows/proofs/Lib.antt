-- The row of places before a block from the row after it: between lower and upper steps over its characters.
pub mod Rows

-- The rows of one block in equality's first pass, in four words or in one.
pub mod Rows

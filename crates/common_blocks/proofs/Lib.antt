-- The rows of one block in the pass from the ends.
pub mod Rows

-- One row of equality's second pass, in four words or in one.
pub mod Rows

-- The rows of document 01's table that are marked P, the slip of the sweep, and examples of padding.
pub mod Letters
pub mod Rows
pub mod Slip
pub mod Padding

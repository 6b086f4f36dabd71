-- The laws of one shape read over padding.
pub mod Along
pub mod Forth
pub mod Back
pub mod Lent

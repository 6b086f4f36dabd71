-- The laws of a book file's end.
pub mod Work
pub mod Ends
pub mod Determined
pub mod Lent

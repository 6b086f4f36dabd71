-- The laws of the call that runs a book.
pub mod Determined

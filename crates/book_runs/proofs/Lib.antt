-- The laws of a book's run.
pub mod Rounds
pub mod Final
pub mod Falls
pub mod Made

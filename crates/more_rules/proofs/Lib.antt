-- The laws of a stricter book, and of a second run.
pub mod Strict
pub mod Room
pub mod More
pub mod Books
pub mod Again
pub mod Listed

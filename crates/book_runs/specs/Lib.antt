-- The run of a book by steps, and what it promises.
pub mod Rounds
pub mod Room
pub mod Code
pub mod Runner

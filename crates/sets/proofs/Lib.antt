-- The laws of sets: which numbers an operation's result holds; one word more, whatever their number; the four words of
-- a set.
pub mod Exact
pub mod Four
pub mod Words

-- The run of a book, group by group.
pub mod Turn

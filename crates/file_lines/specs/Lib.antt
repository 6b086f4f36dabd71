-- A file's lines and grammar, a book, and what the functions that read a line answer.
pub mod Grammar
pub mod Book
pub mod Lines

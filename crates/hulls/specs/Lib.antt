-- What narrowing and a run of a book mean, for every relation.
pub mod Hull
pub mod Book

-- What reading a book file promises.
pub mod Last
pub mod Promise

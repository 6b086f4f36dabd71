-- How a book file ends, and what running it to its report promises.
pub mod Ends
pub mod Promise

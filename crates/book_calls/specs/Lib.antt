-- What the call that runs a book promises.
pub mod Promise

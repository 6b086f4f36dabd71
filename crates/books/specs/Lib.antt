-- What a book of rules is, and why it is refused.
pub mod Counts
pub mod Rules
pub mod Refused
pub mod Code

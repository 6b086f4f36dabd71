-- A rule as numbers, and how large a book may be.
pub mod Rule
pub mod Limits

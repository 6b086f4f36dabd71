-- Rows of bits, and what steps between their numbers lead to.
pub mod Row
pub mod Steps

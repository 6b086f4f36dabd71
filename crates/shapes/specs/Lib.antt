-- What a shape means, and which lent numbers are one.
pub mod Shape
pub mod Wrong
pub mod Lent
pub mod Code

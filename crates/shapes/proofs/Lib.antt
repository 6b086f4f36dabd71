-- The laws of shapes that other crates cite.
pub mod Lent
pub mod Wrong
pub mod Refused
pub mod Fits
pub mod Numbers
pub mod Put
pub mod Front

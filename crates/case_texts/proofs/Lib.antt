-- The laws of fillings respelled, and of the hull of the pairs that are equal but for letter case.
pub mod Respell
pub mod Cut
pub mod Hull
pub mod Stays
pub mod Respelled

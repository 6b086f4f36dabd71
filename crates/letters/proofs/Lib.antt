-- The laws of bases without regard to case.
pub mod Bases
pub mod Words

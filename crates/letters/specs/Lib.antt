-- Bases without regard to case.
pub mod Case
pub mod Code

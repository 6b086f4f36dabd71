-- The steps of least and greatest text.
pub mod Steps
pub mod Code

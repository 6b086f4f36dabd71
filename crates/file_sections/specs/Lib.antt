-- What reading a section of a file answers.
pub mod Parts

-- What reading a sheet answers.
pub mod Sheet

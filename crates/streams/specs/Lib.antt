-- What reading the input answers.
pub mod Within

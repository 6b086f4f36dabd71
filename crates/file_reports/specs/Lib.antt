-- What the program prints, and what the functions that write it answer.
pub mod Report
pub mod Put

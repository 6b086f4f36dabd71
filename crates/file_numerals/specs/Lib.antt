-- Numbers as text, and what the functions that read and write them answer.
pub mod Digits
pub mod Read

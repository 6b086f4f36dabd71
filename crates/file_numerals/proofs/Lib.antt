-- The laws of numbers as text that other crates cite.
pub mod Digits
pub mod Stores
pub mod Read
pub mod Written

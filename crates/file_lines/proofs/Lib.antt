-- The laws of a book's lines that other crates cite.
pub mod Split
pub mod Scan
pub mod Read
pub mod Joined

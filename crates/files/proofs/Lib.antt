-- The laws of files in a grammar that other crates cite.
pub mod Items
pub mod Departs
pub mod Unique
pub mod Example
pub mod Headings
pub mod Size

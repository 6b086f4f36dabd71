-- The laws of sections as they are read.
pub mod Stored
pub mod Reading

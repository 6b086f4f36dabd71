-- A pair of a tray, and its answer record.
pub mod Ranges
pub mod Judged
pub mod Code

-- The laws of a tray's pairs that other crates cite.
pub mod Judged
pub mod Ranges

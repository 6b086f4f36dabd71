-- A tray of pairs.
pub mod Tray
pub mod Code

-- A shape laid out in rows.
pub mod Lay

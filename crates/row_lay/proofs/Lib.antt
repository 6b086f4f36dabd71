-- The laws of a shape laid out in rows.
pub mod Laid

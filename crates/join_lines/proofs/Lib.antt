-- The laws of the line of two shapes: how it is laid, and that equality may be asked either way round.
pub mod Laid
pub mod Turned

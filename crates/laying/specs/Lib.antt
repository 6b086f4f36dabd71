-- Something laid over a part of a list.
pub mod Laid

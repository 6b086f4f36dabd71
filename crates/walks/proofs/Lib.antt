-- The laws of reading shapes by position.
pub mod Walks
pub mod Laid
pub mod Cut
pub mod Fillings

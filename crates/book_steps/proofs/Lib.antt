-- The laws of one application.
pub mod Parts
pub mod Frame
pub mod Standing
pub mod Laid
pub mod Looks
pub mod Once
pub mod Narrowed

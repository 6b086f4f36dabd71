-- The laws of one look.
pub mod Look

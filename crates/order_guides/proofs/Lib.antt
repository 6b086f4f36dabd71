-- The laws of guides.
pub mod Guide
pub mod Sides
pub mod Text

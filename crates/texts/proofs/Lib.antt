-- The laws of the order of texts, and of equality but for padding and but for letter case, that other crates cite.
pub mod Order
pub mod Rests
pub mod Padding
pub mod Letters
pub mod Case

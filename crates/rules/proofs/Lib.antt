-- The laws of rules as numbers.
pub mod Rules

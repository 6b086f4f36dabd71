-- The laws of the rounds.
pub mod Round

-- The laws of the loops of push and stretch.
pub mod Turn

-- The laws of a pair's refusals, and that narrowing's promise determines its outcome.
pub mod Pair
pub mod Determined
pub mod Cleared

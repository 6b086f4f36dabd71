-- The laws of the call that seeks a mark.
pub mod Answer
pub mod Determined
pub mod Values

-- The refusals of the call for the earliest common text, and that its promise determines its outcome.
pub mod Common

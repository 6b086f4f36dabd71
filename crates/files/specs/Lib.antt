-- When a file departs from its grammar, and when it is refused.
pub mod Departs

-- One application of a rule to the numbers so far.
pub mod Step

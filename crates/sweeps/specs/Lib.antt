-- How the quick sweep's lent numbers and outputs are read.
pub mod Meaning
pub mod Kept

-- What the calls on a pair of shapes promise, and why they are refused.
pub mod Pair
pub mod Narrow

-- What the calls on a pair of shapes promise.
pub mod Sweep

-- What the call that decides fitting promises, and what its inner functions answer.
pub mod Fit

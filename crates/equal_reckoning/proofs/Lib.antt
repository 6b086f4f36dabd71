-- The function is exact.
pub mod Tests
pub mod Finish
pub mod Reach
pub mod Gather
pub mod Exact
pub mod Agree

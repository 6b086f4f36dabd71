-- The laws of narrowing and of runs.
pub mod Order
pub mod Small
pub mod Fill
pub mod Tight
pub mod Hull
pub mod Places
pub mod Frame
pub mod Runs
pub mod Sides

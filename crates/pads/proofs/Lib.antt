-- The laws of reading two shapes together where padding does not count.
pub mod But
pub mod Paths
pub mod Unroll
pub mod Cut
pub mod Tight

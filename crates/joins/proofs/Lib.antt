-- The laws of a join.
pub mod Line
pub mod Join
pub mod Refused
pub mod Determined

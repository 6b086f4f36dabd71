-- The laws of a book and its refusals.
pub mod Sums
pub mod Part
pub mod Fourth
pub mod Asks
pub mod Fillings
pub mod Refused
pub mod Tell
pub mod Joinable

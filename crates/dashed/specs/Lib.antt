-- The promises of the calls, in one place.
pub mod Promises

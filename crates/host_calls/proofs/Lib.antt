-- The laws of the call from a host.
pub mod Numbers
pub mod Signed
pub mod Determined

-- What the call from a host promises.
pub mod Host

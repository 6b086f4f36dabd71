-- What narrowing a join promises, and why it is refused.
pub mod Refused
pub mod Join

-- The quick sweep, by steps, and what its places mean.
pub mod Share
pub mod Places
pub mod Steps
pub mod Names

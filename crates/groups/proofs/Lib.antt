-- The laws of groups.
pub mod Texts
pub mod Looks
pub mod Lockstep
pub mod Linked
pub mod Own
pub mod Groups
pub mod Ends
pub mod Whole
pub mod Listed

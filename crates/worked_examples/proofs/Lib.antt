-- The table is proved, and the slip, and the examples of padding.
pub mod Soundness
pub mod Computed
pub mod OneRun
pub mod Orders
pub mod Rows
pub mod Slips
pub mod Useless
pub mod Padding

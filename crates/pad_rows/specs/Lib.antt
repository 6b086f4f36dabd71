-- One shape read over padding, in rows.
pub mod Alone
pub mod Code

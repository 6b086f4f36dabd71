-- The laws of the earliest common text: from where both stand, and from their starts.
pub mod Starts

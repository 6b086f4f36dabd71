-- The earliest text that both shapes can end with, from where they stand, by recursion: its first character, then what
-- remains.
pub mod Part
pub mod Remains

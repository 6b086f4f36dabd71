-- The characters of a mark, and the starts that its starts end with.
pub mod Borders

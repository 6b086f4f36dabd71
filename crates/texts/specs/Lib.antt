-- The order of texts, equality but for padding, equality but for letter case, and the relations that rules name.
pub mod Order
pub mod Padding
pub mod Case
pub mod Kind

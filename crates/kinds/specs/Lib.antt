-- The relations of a rule of two texts, and their kinds.
pub mod Relation

-- The positions of one block weighed: the least character that may come next in both shapes, and where it is taken.
pub mod Ends
pub mod Weighing

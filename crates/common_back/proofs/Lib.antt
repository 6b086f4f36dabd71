-- The laws of the pass from the ends that keeps its rows.
pub mod Pass

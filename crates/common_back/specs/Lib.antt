-- The pass from the ends that keeps its rows.
pub mod Back

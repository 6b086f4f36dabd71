-- The laws of reports that other crates cite.
pub mod Put
pub mod Example
pub mod Ready

-- The laws of bases that other crates cite.
pub mod Laws
pub mod Sets
pub mod Words

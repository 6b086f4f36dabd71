-- What four words stand for.
pub mod Set

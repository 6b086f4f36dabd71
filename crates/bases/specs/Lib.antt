-- What a base is.
pub mod Base

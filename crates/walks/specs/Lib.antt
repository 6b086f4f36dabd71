-- A shape read one character at a time, by position, and two shapes read together.
pub mod Walk

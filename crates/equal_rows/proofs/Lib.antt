-- Narrowing under equality but for padding: both passes, then both outputs.
pub mod Equal

-- What the call for the earliest common text promises.
pub mod Common

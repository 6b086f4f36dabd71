-- That the promises determine what they promise.
pub mod Determined

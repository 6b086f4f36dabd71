-- The laws of the quick sweep.
pub mod Share
pub mod Views
pub mod Looks
pub mod Laid
pub mod Pushing
pub mod Stretching
pub mod Turned
pub mod Sound
pub mod Named
pub mod Sweep
pub mod Order

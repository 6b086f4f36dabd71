-- The sweep's two passes over all blocks.
pub mod Read

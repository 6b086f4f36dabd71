-- The two orders as relations that go along with the order of texts.
pub mod Ordered

-- What an order asks of each side alone, and what narrowing both sides leaves.
pub mod Ordered
pub mod Narrowed

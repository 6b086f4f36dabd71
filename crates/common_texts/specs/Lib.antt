-- The earliest common text: what it is, and what the function that writes it promises.
pub mod Earliest

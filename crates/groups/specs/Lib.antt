-- Groups of the texts that rules link, their own rules, how each of them is run, and which are the same in two books.
pub mod Linked
pub mod Own
pub mod Ends
pub mod Alike
pub mod Same

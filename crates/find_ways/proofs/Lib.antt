-- The laws of the ways between the states of a search.
pub mod Leads
pub mod Words

-- Where each character stands in a text: a row of places for each that occurs.
pub mod Table
pub mod Lowest

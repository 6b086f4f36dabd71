-- What is said of plain numbers, lists and answers, whatever they stand for.
pub mod All
pub mod Tells
pub mod Items

-- Narrowing two lent shapes without regard to case.
pub mod Lent

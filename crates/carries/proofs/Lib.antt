-- Laws of sums and of what they carry.
pub mod Carry
pub mod Sums
pub mod Shifts
pub mod Doubled
pub mod Short
pub mod Spanned

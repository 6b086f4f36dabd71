-- A book that is at least as strict as another, how its texts may end, and how they end if what was left is run again.
pub mod Strict
pub mod Ends

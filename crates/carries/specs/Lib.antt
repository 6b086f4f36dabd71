-- What climbs through numbers without a gap.
pub mod Climb

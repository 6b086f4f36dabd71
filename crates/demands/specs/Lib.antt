-- The calls as values, sequences of calls, the user's demands, and the requests made since.
pub mod Call
pub mod Calls
pub mod Demands
pub mod Request1
pub mod Request2
pub mod Request3
pub mod Request4
pub mod Request5
pub mod Request6
pub mod Request7
pub mod Request8
pub mod Request9
pub mod Request10
pub mod Request11
pub mod Request12

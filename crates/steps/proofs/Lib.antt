-- What belongs to no one function.
pub mod Sums
pub mod Columns
pub mod Joint

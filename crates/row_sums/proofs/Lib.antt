-- What belongs to no one function.
pub mod Namings
pub mod Columns

-- What belongs to no one function.
pub mod Magnitude
pub mod Operands
pub mod Values

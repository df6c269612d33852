-- Laws of numbers that stop above 2^62.
pub mod Capped

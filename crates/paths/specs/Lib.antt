-- What the numerator call is asked about.
pub mod Tuples
pub mod Places

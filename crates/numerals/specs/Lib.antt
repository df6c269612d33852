-- Numbers as they are written.
pub mod Numeral
pub mod Working

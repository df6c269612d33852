-- What belongs to no one function.
pub mod Answer
pub mod Places
pub mod Rightness
pub mod Roundtrip
pub mod Standing
pub mod Theorems
pub mod Words
pub mod Written

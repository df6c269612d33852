-- What belongs to no one function.
pub mod Written
pub mod Repeats
pub mod Places
pub mod Truth
pub mod Swapping
pub mod Tails

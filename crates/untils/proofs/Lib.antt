-- What belongs to no one function.
pub mod Untils
pub mod Repeating
pub mod Paths

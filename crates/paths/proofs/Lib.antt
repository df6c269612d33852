-- Laws of tuples and of path formulas.
pub mod Members
pub mod Searching
pub mod Joining
pub mod Once

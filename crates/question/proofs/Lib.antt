-- Laws of a question that belong to no one function.
pub mod Numbers
pub mod Stages
pub mod Early
pub mod Pair
pub mod Settled
pub mod Cleared

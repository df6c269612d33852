-- Laws of the numerator that belong to no one function.
pub mod Asking
pub mod Counting
pub mod Answering
pub mod Single

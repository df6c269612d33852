-- Laws of the verdict that belong to no one function.
pub mod Judging
pub mod Answering
pub mod Single

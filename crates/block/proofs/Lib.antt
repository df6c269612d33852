-- Laws of blocks that belong to no one function.
pub mod Laws
pub mod Backwards

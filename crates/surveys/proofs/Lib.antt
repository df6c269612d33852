-- Laws of surveying that belong to no one function.
pub mod Surveying

-- The chain of a model.
pub mod Of

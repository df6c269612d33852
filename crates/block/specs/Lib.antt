-- The blocks of a model file.
pub mod Block
pub mod Working

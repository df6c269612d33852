-- The theorem of specs/Unchanged.
pub mod Fewer
pub mod Scaled
pub mod Unchanged

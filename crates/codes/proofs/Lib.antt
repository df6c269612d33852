-- The laws of the codes.
pub mod Back
pub mod Told

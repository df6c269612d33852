-- The codes of the exported calls.
pub mod Codes
pub mod Working

-- The laws that the proofs of the exported calls share.
pub mod Theorems
pub mod Told

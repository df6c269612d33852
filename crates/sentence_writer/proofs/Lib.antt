-- The laws that the proofs of the writer share.
pub mod WriteAll

-- The laws that the program's proofs share, and what its first bytes tell of a file.
pub mod Enough
pub mod AnySize
pub mod Room

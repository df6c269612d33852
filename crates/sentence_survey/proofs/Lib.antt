-- The laws that the proofs share.
pub mod Fitting
pub mod Faults

-- The laws that the proofs of the first pass share.
pub mod Results
pub mod NodeAt

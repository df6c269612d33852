-- The laws that the proofs of the reader share.
pub mod PrefixAt
pub mod ReadAll

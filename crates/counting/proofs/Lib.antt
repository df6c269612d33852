-- The laws of sums, tests and tables that the layers above cite.
pub mod Laws
pub mod Listed

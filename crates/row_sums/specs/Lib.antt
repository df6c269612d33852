-- Working: what the functions of this crate promise one another. Nothing here has to be believed.
--
-- Sums over a state's row.
pub mod Sparse
pub mod Columns

-- Working: what the functions of this crate promise one another. Nothing here has to be believed.
--
-- Numbers that stop above 2^62.
pub mod Capping

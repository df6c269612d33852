-- Working: what the functions of this crate promise one another. Nothing here has to be believed.
--
-- Signed numerators.
pub mod Codes
pub mod Operations
pub mod Values

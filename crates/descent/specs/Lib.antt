-- Working: what the functions of this crate promise one another. Nothing here has to be believed.
--
-- The quantifier descent: a prefix over a layer of truths.
pub mod Descent

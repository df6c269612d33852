-- Working: what the functions of this crate promise one another. Nothing here has to be believed.
--
-- A path's numbers.
pub mod Within

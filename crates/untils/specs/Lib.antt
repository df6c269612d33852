-- Working: what the functions of this crate promise one another. Nothing here has to be believed.
--
-- An until over three layers.
pub mod Untils

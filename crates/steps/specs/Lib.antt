-- Working: what the functions of this crate promise one another. Nothing here has to be believed.
--
-- A joint step of a layer.
pub mod Columns
pub mod Steps

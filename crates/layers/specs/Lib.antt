-- Working: what the functions of this crate promise one another. Nothing here has to be believed.
--
-- Layers of numbers, one number for each tuple of states.
pub mod Layers
pub mod Held

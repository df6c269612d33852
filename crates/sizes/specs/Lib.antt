-- Working: what the functions of this crate promise one another. Nothing here has to be believed.
--
-- What the size rule's walk over the places says.
pub mod Sizing

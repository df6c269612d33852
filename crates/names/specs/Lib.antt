-- Working: what the functions of this crate promise one another. Nothing here has to be believed.
--
-- The variables named at the places of a sentence's record.
pub mod Names

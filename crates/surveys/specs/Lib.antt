-- Working: what the functions of this crate promise one another. Nothing here has to be believed.
--
-- Surveying the nodes of a sentence.
pub mod Surveys

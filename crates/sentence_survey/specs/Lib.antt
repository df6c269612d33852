-- Working: what the functions of this crate promise one another. Nothing here has to be believed.
--
-- What is found of a record's nodes before they are written.
pub mod Surveys

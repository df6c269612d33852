-- What the functions of evaluation promise one another. None of it has to be believed: the calls' contracts stand
-- above.
pub mod Surveys
pub mod Evaluation

-- What every call's proof cites about refusal numbers and answers.
pub mod Ensuring
pub mod Joined
pub mod Laws
pub mod Listed

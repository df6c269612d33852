-- Verdict: what it answers.
pub mod Contract
pub mod Working

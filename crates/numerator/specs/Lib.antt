-- Numerator: its rows, and what it answers.
pub mod Contract
pub mod Working

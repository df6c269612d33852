-- The program's contract, and what its functions promise one another.
pub mod Contract
pub mod Working

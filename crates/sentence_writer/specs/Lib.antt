-- Write sentence: its rows and its contract, and what its functions promise one another.
pub mod Contract
pub mod Working

-- The proofs of the three demands.
pub mod Free
pub mod Demand1
pub mod Demand2
pub mod Fewer
pub mod Watches
pub mod Room
pub mod RoundTrips
pub mod Exported
pub mod Differing
pub mod Demand3
pub mod Filling
pub mod Examples

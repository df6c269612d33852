-- The theorems about the definitions of specs/, which the other crates' proofs cite.
pub mod Sums
pub mod Tests
pub mod Numbers
pub mod Runs
pub mod Named
pub mod Steps
pub mod Single
pub mod Until
pub mod Watches
pub mod Looking
pub mod Magnitude
pub mod Laws
pub mod Bounds
pub mod Merging
pub mod Paths
pub mod Examples

-- Merging: the rows of merge, what it keeps, and the line on merging M2.
pub mod Contract
pub mod Keeping
pub mod Examples

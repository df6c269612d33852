-- Theorems about merge beside its contract.
pub mod Merging
pub mod Built
pub mod Numbers
pub mod Shape
pub mod Theorems
pub mod Unmerged
pub mod Exact
pub mod Examples

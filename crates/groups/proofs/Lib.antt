-- Laws about groupings that the layers above cite.
pub mod Counts
pub mod Members
pub mod Grouped
pub mod Stability

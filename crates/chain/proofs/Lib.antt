-- What the layers above cite of the chain of a model.
pub mod Bits
pub mod Totals
pub mod Filling
pub mod Right
pub mod Accepted

-- The rows that verdict and numerator share.
pub mod Contract
pub mod Working

-- The model file: its layout, what the layout asks, and the contracts of read model and write model.
pub mod Layout
pub mod Rules
pub mod Words
pub mod Contract

-- The contracts of the exported calls: of those on models, on sentences, and on both.
pub mod Models
pub mod Questions
pub mod Sentences

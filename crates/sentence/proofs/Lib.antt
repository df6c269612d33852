-- Laws of the grammar and of the record.
pub mod Unique
pub mod Letters
pub mod Once
pub mod Records
pub mod Suiting
pub mod Nesting
pub mod Examples

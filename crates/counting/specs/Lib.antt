-- Sums, tests and tables over the numbers below n; entries of tables and bits; texts as bytes.
pub mod Below
pub mod Entries
pub mod Ascii

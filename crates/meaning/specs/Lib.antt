-- Document 01's 'Meaning', with T-02 of document 02, in the order in which it is read.
pub mod Lists
pub mod Chain
pub mod Tree
pub mod Named
pub mod Meaning
pub mod Watches
pub mod Size
pub mod Merging
pub mod Examples

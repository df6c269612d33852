-- The three demands of document 00, what the requests of document 02 ask to be shown of the calls, and the starred lines of document 01.
pub mod Demands
pub mod Fewer
pub mod Filling
pub mod Watches
pub mod Room
pub mod Examples

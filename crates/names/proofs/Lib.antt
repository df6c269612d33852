-- Laws of the variables that the nodes of a tree name.
pub mod Labels

-- Laws of capped numbers, and of what the walk finds node by node.
pub mod Walking

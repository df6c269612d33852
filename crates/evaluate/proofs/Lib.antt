-- Laws of evaluation that belong to no one function.
pub mod Places
pub mod Needing
pub mod Fixing
pub mod Trees
pub mod Operands
pub mod Others
pub mod Formulas
pub mod Expressions
pub mod Pathways

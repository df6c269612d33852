-- From node lists to trees.
pub mod Listed
pub mod Standing
pub mod Numbered
pub mod Ranged
pub mod Wanted
pub mod Need

-- Laws of trees and the places that they stand in.
pub mod Exists
pub mod Once
pub mod Stretch
pub mod Cases
pub mod Parts
pub mod Numbered
pub mod Windows
pub mod Ranges
pub mod Needs
pub mod Within

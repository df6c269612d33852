-- Laws of numbers in a text.
pub mod Numbers
pub mod NumberAt
pub mod LastDigit
pub mod Puts

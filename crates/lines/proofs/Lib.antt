-- What is said of a text without its newline.
pub mod Newlines

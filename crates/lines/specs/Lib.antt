-- The program's line, and the text in the sentence's file.
pub mod Lines
pub mod Texts

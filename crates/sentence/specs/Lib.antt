-- The grammar of document 01, 'The sentence text', and the record of a sentence.
pub mod Grammar
pub mod Forms
pub mod Record
pub mod Working

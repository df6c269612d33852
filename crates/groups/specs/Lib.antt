-- Groupings, and the merged model.
pub mod Groups
pub mod Working

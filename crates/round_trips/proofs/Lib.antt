-- The round trips of sentences.
pub mod RoundTrips

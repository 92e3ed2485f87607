-- A log's text is read back; the two calls on texts, and the places of a refused reading.
pub mod Back
pub mod Calls
pub mod Places

-- Laws that several proofs cite, of this crate and of others.
pub mod Rows
pub mod Chains
pub mod Keys
pub mod Searches

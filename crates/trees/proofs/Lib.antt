-- Laws that several proofs of this crate, and of those above it, cite.
pub mod Rows
pub mod Ahead
pub mod Forming
pub mod OwnLaws
pub mod Walking
pub mod TermWords
pub mod TermsWalk
pub mod NodeWords
pub mod TreeWalk

-- Laws that several proofs of this crate, and of those above it, cite.
pub mod Places
pub mod ListedLaws
pub mod ListsLaws
pub mod Filling
pub mod Sums
pub mod TermLaws

-- Laws that several proofs of this crate, or of others, cite.
pub mod GroundLaws
pub mod LastLaws
pub mod Concluding
pub mod Preparing

-- Laws that several proofs of this crate, or of others, cite.
pub mod TextLaws
pub mod TupleLaws

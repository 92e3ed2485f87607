-- Laws that several proofs of this crate, or of others, cite.
pub mod TermLaws
pub mod LeafLaws

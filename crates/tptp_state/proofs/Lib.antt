-- Laws that several proofs of this crate, or of others, cite.
pub mod StateLaws
pub mod LeafSettling

-- Laws that several proofs of this crate, or of others, cite.
pub mod BinderLaws
pub mod TupleLaws
pub mod TuplesLaws
pub mod AheadLaws

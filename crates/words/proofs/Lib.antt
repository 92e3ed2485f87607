-- Laws that several proofs of this crate, or of others, cite.
pub mod Signed
pub mod PartLaws
pub mod LayingLaws
pub mod MovingLaws
pub mod ClearingLaws

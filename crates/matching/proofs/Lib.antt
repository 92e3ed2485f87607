-- Laws that several proofs of this crate cite.
pub mod LookupLaws
pub mod FitLaws
pub mod WayLaws
pub mod RowLaws

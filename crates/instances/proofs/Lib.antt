-- Laws that several proofs of this crate cite.
pub mod ChosenTuples
pub mod InstanceLaws
pub mod KeyLaws
pub mod SeenLaws
pub mod ClosedLaws

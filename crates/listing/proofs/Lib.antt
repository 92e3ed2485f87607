-- Laws that several proofs of this crate cite.
pub mod Leaves
pub mod MapLaws
pub mod MapRoom
pub mod AllLaws
pub mod AnyLaws
pub mod SomeLaws
pub mod KeepLaws
pub mod LeafLaws
pub mod AtomLaws
pub mod KeptRoom
pub mod WalkLaws
pub mod JoinLaws

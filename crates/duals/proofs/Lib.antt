-- Laws that several proofs of this crate cite.
pub mod DualBuffer
pub mod DualTrees
pub mod DualAfter
pub mod DualSwap

-- Laws that several proofs of this crate cite.
pub mod Children
pub mod WalkChildren
pub mod WalkNodes
pub mod WalkInstances
pub mod WalkQuantifier

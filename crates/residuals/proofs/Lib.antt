-- Laws that several proofs of this crate cite.
pub mod ReduceSettling
pub mod ReduceWalking
pub mod ReduceCall

-- Laws that several proofs of this crate and of those above cite.
pub mod Parts
pub mod Telling
pub mod Adding
pub mod Keeping
pub mod Finishing
pub mod Lending
pub mod Answering

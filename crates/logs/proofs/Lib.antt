-- Laws that several proofs of this crate cite.
pub mod Rows
pub mod Repeats
pub mod Linking
pub mod Values

-- Laws that the proofs of several functions cite.
pub mod Bytes
pub mod Fronts
pub mod Lengths
pub mod Splits
pub mod Words

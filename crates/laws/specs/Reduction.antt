-- Laws of model's Reduction.antt.
pub mod Instances
pub mod Truth
pub mod Settled
pub mod Accepted
pub mod Paper
pub mod Sized

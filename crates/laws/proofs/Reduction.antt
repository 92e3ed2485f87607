-- Laws of model's Reduction.antt: the instances are exact, truth is kept, nothing is left to decide, the paper's equations.
pub mod Instances
pub mod Truth
pub mod Settled
pub mod Paper

pub mod Room
pub mod Terms
pub mod Leaves

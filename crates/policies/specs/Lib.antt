pub mod Standing
pub mod Node
pub mod Policy

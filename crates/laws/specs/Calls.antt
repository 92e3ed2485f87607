-- Laws of model's Calls.antt.
pub mod Policy
pub mod Places
pub mod Room

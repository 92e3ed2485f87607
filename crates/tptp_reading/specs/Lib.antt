pub mod Formula
pub mod Policy

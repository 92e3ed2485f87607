pub mod Grown
pub mod Own
pub mod Walk

pub mod Binder
pub mod Tuples
pub mod Ahead

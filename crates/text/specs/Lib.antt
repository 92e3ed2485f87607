pub mod Passing
pub mod Reading
pub mod Writing
pub mod Put
pub mod Written
pub mod Adds

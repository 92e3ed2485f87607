pub mod Fitting
pub mod Ways
pub mod Rows
pub mod Lookup

-- What is written is read back: by the reader, by the calls, and of residuals.
pub mod Policies
pub mod Calls
pub mod Residual

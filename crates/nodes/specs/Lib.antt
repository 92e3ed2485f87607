pub mod Ground
pub mod Last
pub mod Prepare
pub mod Conclude

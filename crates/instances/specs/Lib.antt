pub mod Instances
pub mod Keyed
pub mod Closing

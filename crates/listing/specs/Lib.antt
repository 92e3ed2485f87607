pub mod Keeping
pub mod Restrictions

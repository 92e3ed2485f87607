pub mod Chain
pub mod Key
pub mod Search

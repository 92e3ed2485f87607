pub mod Answer
pub mod Join

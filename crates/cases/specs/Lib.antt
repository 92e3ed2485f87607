pub mod Call
pub mod Given

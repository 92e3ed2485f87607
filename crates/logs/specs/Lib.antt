pub mod Log
pub mod Value
pub mod Links

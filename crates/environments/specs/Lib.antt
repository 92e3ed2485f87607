pub mod Environment
pub mod Listed
pub mod Lists
pub mod Standing

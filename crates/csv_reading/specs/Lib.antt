pub mod Field
pub mod Record
pub mod Rows

-- How many parentheses stand open in a text; how long a text is.
pub mod Opened
pub mod Balance
pub mod Length

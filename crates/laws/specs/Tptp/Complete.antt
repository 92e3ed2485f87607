-- What it is that a reader takes the tokens of every value that it can give, and how readers one behind another do.
pub mod Readers

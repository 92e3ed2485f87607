-- What is read is spelled: a reader that passes has used a text that spells what it gives, and one that is refused the beginning of one.
pub mod Readers
pub mod Tokens
pub mod Numbers
pub mod Lists
pub mod Atoms
pub mod Joins
pub mod Trees
pub mod Texts
pub mod Policies

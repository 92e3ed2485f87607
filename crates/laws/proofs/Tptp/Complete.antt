-- What is spelled is read: a reader takes the tokens of every value that it can give.
pub mod Numbers
pub mod Lists
pub mod Atoms
pub mod Joins
pub mod Restrictions
pub mod Trees
pub mod Policies

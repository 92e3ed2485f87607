-- How many parentheses stand open where a text is refused, and what comes of one too many.
pub mod OpenAtRefusal
pub mod Limit

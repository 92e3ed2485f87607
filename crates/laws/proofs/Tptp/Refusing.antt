-- No allowed text goes on from the place where a text is refused.
pub mod Nowhere

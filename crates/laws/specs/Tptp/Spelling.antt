-- Which trees a text can spell, and tokens as they stand in a text.
pub mod Good
pub mod Sized
pub mod TokensInFront
pub mod TokensAhead

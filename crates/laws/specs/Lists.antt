-- Laws of model's Lists.antt.
pub mod Membership
pub mod Span

-- Laws that several proofs of this crate cite.
pub mod NodeTextLaws
pub mod PrintableLaws
pub mod WalkLaws
pub mod PolicyLaws

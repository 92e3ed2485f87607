-- Laws that several proofs of this crate, or of others, cite.
pub mod NodeTag
pub mod NodeTerms
pub mod NodeShape
pub mod NodeQuestions
pub mod PolicyRead
pub mod PolicyNode
pub mod PolicyWhole
pub mod TermLaws
pub mod Standing
pub mod Stood

-- Laws that several proofs of this crate, or of others, cite.
pub mod PassingLaws
pub mod ReadingLaws
pub mod WritingLaws
pub mod PutLaws
pub mod WrittenLaws

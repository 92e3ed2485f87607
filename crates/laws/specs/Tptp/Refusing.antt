-- Where a text is refused: the bytes before the place begin an allowed text.
pub mod Local
pub mod LocalLists
pub mod TokenDue
pub mod LocalTrees
pub mod Place
pub mod Places

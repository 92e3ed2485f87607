-- Words laid over others from an index on.
use Rattle.std.specs.Prelude.{ℕ, ◌+◌, ◌++◌, length, take, drop}
use Rattle.model.specs.Words.{Words}

-- a part laid over old words, the first of it at an index
unfoldable pub laid : Words → ℕ → Words → Words
laid old to part = take to old ++ part ++ drop (to + length part) old

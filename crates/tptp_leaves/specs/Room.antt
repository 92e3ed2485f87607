-- What is put into the room for a node's words.
use Rattle.std.specs.Prelude.{◌≡◌, length}
use Rattle.model.specs.Words.{Words}
use Rattle.tptp_leaves.specs.declared.own.Own.{Own}

-- the room is the same one, and as long
pub record Kept (own own' : Own) : Type 0 where
  pub same : own'.words.ghost_name ≡ own.words.ghost_name
  pub long : length own'.words.now ≡ length own.words.now

-- its words become these
pub record Becomes (own : Own) (words : Words) (own' : Own) : Type 0 where
  pub kept : Kept own own'
  pub now : own'.words.now ≡ words

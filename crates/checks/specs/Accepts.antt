-- What it says that a policy passes questions 1 to 7.
use Rattle.std.specs.Prelude.{◌≡◌}
use Rattle.model.specs.Words.{Words}
use Rattle.model.specs.Answer.{passed}
use Rattle.model.specs.Tree.{Tree}
use Rattle.model.specs.Calls.{ask_policy}

abbrev pub Accepts : (table policy : Words) → Type 0
Accepts table policy = (tree : Tree) × (ask_policy table policy ≡ passed tree)

-- The words of a policy that passed questions 1 to 7 are those of its tree, whose dual can be written.
use mathlib.Core.Path.{◌≡◌}
use Rattle.model.specs.Words.{Words}
use Rattle.model.specs.Answer.{passed}
use Rattle.model.specs.Calls.{ask_policy}
use Rattle.model.specs.Tree.{Tree, encode}
use Rattle.laws.specs.Calls.Policy.{accepted-rules}
use Rattle.trees.specs.Grown.{Tupled}
use Rattle.trees.proofs.Forming.{formed-tupled}

-- what is asked of the words of a policy that passed questions 1 to 7, and of its tree
pub accepted-written : (table words : Words) (tree : Tree) → ask_policy table words ≡ passed tree → Tupled tree × (encode tree ≡ words)
accepted-written table words tree e =
    let (good, is, rules) = accepted-rules table words tree e in
    (formed-tupled tree table _ 0 rules.formed, is)

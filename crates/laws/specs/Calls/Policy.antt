-- The policies that are accepted are the words of the trees that keep the rules. From the two directions of the reading,
-- and the mode rule, which both ask.
use Rattle.std.specs.Prelude.{◌≤◌, ◌≡◌, refl, length}
use Rattle.model.specs.Words.{Words, policy_limit}
use Rattle.model.specs.Answer.{passed}
use Rattle.model.specs.Table.{ask_table}
use Rattle.model.specs.Tree.{Tree, encode}
use Rattle.model.specs.Reading.{read_policy}
use Rattle.model.specs.Mode.{ask_modes}
use Rattle.model.specs.Calls.{ask_policy}
use Rattle.laws.specs.Reading.Formed.{Rules}
use Rattle.laws.specs.Answer.{passed-same, both-passed, pass_then}
use Rattle.laws.specs.Reading.Encoded.{read-encode}
use Rattle.laws.specs.Reading.Back.{encode-read}

-- an accepted policy: questions 1 to 6 and 7 passed
pub accepted-asked :
    (table words : Words) (tree : Tree) →
    ask_policy table words ≡ passed tree →
    (ask_table table ≡ passed tt) × (read_policy table words ≡ passed tree) × (ask_modes tree table 0 0 ≡ passed tt)
unfolding ask_policy
accepted-asked table words tree e =
    both-passed _ _ e λ _ p e₁.
    both-passed _ _ e₁ λ read q e₂.
    both-passed _ _ e₂ λ _ m e₃.
    rw (← passed-same e₃) (p, q, m)

-- an accepted policy is its tree's words, and the tree keeps the rules
pub accepted-rules :
    (table words : Words) (tree : Tree) →
    ask_policy table words ≡ passed tree →
    (ask_table table ≡ passed tt) × (encode tree ≡ words) × Rules table tree
accepted-rules table words tree e =
    let asked = accepted-asked table words tree e in
    let read = read-encode table words tree asked.1 in
    (asked.0, read.0, record { formed = read.1; levels = read.2; modes = asked.2 })

-- the words of a tree that keeps the rules are accepted, if the table is and they are not too many
pub rules-accepted :
    (table : Words) (tree : Tree) →
    ask_table table ≡ passed tt →
    Rules table tree →
    length (encode tree) ≤ policy_limit →
    ask_policy table (encode tree) ≡ passed tree
unfolding ask_policy
rules-accepted table tree t rules short =
    pass_then _ t
    (pass_then _ (encode-read table tree rules.formed rules.levels short) (pass_then _ rules.modes refl))

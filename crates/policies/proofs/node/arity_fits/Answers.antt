-- `policies::node::arity_fits` meets its contract: the predicate is in the table, and its arity the atom's.
use Prim.Native.Nat.{ℕ, ◌+◌}
use mathlib.Core.Path.{◌≡◌, sym, ap, ◌∙◌}
use Rattle.model.specs.Words.{word, below}
use Rattle.model.specs.Table.{predicates}
use Rattle.model.specs.Reading.{good_predicate}
use Rattle.policies.proofs.node.arity_fits.Goals as goal

pub returns-then-not-below : goal.returns-then-not-below
unfolding good_predicate
returns-then-not-below c b =
    let told : let a = c.args in c.below.result ≡ below (predicates a.table.now) (word a.spot.words.now (a.spot.at + 1)) = let a = c.args in
    c.below.ensures ∙ ap (λ (n : ℕ). below n (word a.spot.words.now (a.spot.at + 1))) c.predicates.ensures in
    rw (sym (told) ∙ c.if-not-below.true)

pub returns : goal.returns
unfolding good_predicate
returns c b =
    let told : let a = c.args in c.below.result ≡ below (predicates a.table.now) (word a.spot.words.now (a.spot.at + 1)) = let a = c.args in
    c.below.ensures ∙ ap (λ (n : ℕ). below n (word a.spot.words.now (a.spot.at + 1))) c.predicates.ensures in
    let exists = sym (told) ∙ c.if-not-below.false in
    rw (exists, ← c.value-p.ensures, ← c.arity.ensures, ← c.value.ensures)

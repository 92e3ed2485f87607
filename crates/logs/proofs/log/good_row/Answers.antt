-- `logs::log::good_row` meets its contract: three tests, one after another.
use Prim.Native.Nat.{ℕ}
use mathlib.Core.Path.{◌≡◌, sym, ap, ◌∙◌}
use Rattle.model.specs.Words.{word, below}
use Rattle.model.specs.Table.{predicates, arity}
use Rattle.logs.specs.Log.{unused_from}
use Rattle.logs.proofs.Rows.{good-first, good-second, good-third}
use Rattle.logs.proofs.log.good_row.Goals as goal

pub returns-then-not-below : goal.returns-then-not-below
returns-then-not-below c =
    let predicate-told : let a = c.args in c.below.result ≡ below (predicates a.table.now) (word a.row.now 0) = let a = c.args in
    c.below.ensures ∙ ap (λ (n : ℕ). below n (word a.row.now 0)) c.predicates.ensures in
    let a = c.args in
    good-first a.table.now a.row.now (sym (predicate-told) ∙ c.if-not-below.true)

pub returns-then-not-within : goal.returns-then-not-within
returns-then-not-within c =
    let predicate-told : let a = c.args in c.below.result ≡ below (predicates a.table.now) (word a.row.now 0) = let a = c.args in
    c.below.ensures ∙ ap (λ (n : ℕ). below n (word a.row.now 0)) c.predicates.ensures in
    let a = c.args in
    good-second a.table.now a.row.now
    (sym (predicate-told) ∙ c.if-not-below.false)
    (sym c.within.ensures ∙ c.if-not-within.true)

pub returns : goal.returns
returns c =
    let predicate-told : let a = c.args in c.below.result ≡ below (predicates a.table.now) (word a.row.now 0) = let a = c.args in
    c.below.ensures ∙ ap (λ (n : ℕ). below n (word a.row.now 0)) c.predicates.ensures in
    let a = c.args in
    c.unused.ensures
    ∙ ap (unused_from a.row.now) (c.arity.ensures ∙ ap (arity a.table.now) c.value.ensures)
    ∙ good-third a.table.now a.row.now
    (sym (predicate-told) ∙ c.if-not-below.false)
    (sym c.within.ensures ∙ c.if-not-within.false)

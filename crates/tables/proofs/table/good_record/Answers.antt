-- `tables::table::good_record` meets its contract: three tests, one after another.
use Prim.Native.Nat.{ℕ, ◌^◌, ◌-◌}
use mathlib.Core.Path.{◌∙◌, sym, ap}
use Rattle.laws.specs.Words.Standing.{within-value}
use Rattle.model.specs.Words.{value}
use Rattle.model.specs.Table.{arity, good_record}
use Rattle.tables.proofs.table.good_record.Goals as goal

pub returns-then-not-within : goal.returns-then-not-within
unfolding good_record
returns-then-not-within c = rw (sym c.within.ensures ∙ c.if-not-within.true)

pub masks-requires : goal.masks-requires
unfolding arity value
masks-requires c =
    rw c.arity.ensures (within-value 1 6 _ (sym c.within.ensures ∙ c.if-not-within.false)).2

pub returns-then-not-within-2 : goal.returns-then-not-within-2
unfolding good_record arity
returns-then-not-within-2 c =
    let first = sym c.within.ensures ∙ c.if-not-within.false in
    let mask = c.masks.ensures ∙ ap (λ (n : ℕ). 2 ^ n - 1) c.arity.ensures in
    let second = sym c.within-2.ensures ∙ c.if-not-within-2.true in
    rw (first, rw mask at second)

pub returns : goal.returns
unfolding good_record arity
returns c =
    let first = sym c.within.ensures ∙ c.if-not-within.false in
    let mask = c.masks.ensures ∙ ap (λ (n : ℕ). 2 ^ n - 1) c.arity.ensures in
    let second = sym c.within-2.ensures ∙ c.if-not-within-2.false in
    rw (first, rw mask at second) c.within-3.ensures

-- `chains::search::search` meets its contract. The outer invariant: the rows passed don't hold the atom, so the search comes to
-- that through what is left of the chain. The inner one: the row has the predicate, and holds the atom if its arguments from
-- i on are the atom's. The measure is the link, which falls along a chain.
use Prim.Native.Nat.{ℕ, ◌+◌, ◌*◌, ◌-◌, ◌/◌, ◌<◌}
use native.Mathlib.Omega.{arith}
use mathlib.Core.Path.{refl, sym, ap, ◌∙◌}
use lib.ListN.{length}
use Rattle.model.specs.Log.{row_count}
use Rattle.chains.specs.Search.{first_row}
use Rattle.chains.specs.Chain.{chain}
use Rattle.chains.specs.Key.{row_key}
use Rattle.chains.proofs.Rows.{rest-start, rest-step, rest-stop, rest_end, holds-here, holds_not}
use Rattle.chains.proofs.Keys.{key-small}
use Rattle.chains.proofs.Searches.{first-chain, search_none, search_row, search_found, search_next, search_less}
use Rattle.chains.proofs.search.search.Goals as goal

pub offset_bounds-links-start : goal.offset_bounds-links-start
offset_bounds-links-start c = omega (arith, key-small c.args.predicate c.args.arguments.now 0, c.requires.2)

pub bounds-links-start : goal.bounds-links-start
bounds-links-start c = omega (arith, key-small c.args.predicate c.args.arguments.now 0, c.requires.2, c.requires.0.within)

pub rows-init : goal.rows-init
unfolding row_count
rows-init c =
    let a = c.args in
    let small = key-small a.predicate a.arguments.now 0 in
    let start = c.requires.2 in (
      0,
      record {
        linked = c.requires.0.heads a.start (omega arith);
        left = first-chain a.log.now a.predicate
            a.arguments.now c.requires.1 (length a.log.now / 8) (omega arith) ∙ ap
            (λ (k : ℕ). first_row a.log.now a.predicate a.arguments.now
            (chain (row_key a.log.now) k 0 (length a.log.now / 8))) (sym start);
      },
    )

pub overflow_sub-row : goal.overflow_sub-row
overflow_sub-row c = (search_row c.rows.invariant.1 c.if-link-eq0.false).1

pub bounds-links-row : goal.bounds-links-row
unfolding row_count
bounds-links-row c = omega (arith, (search_row c.rows.invariant.1 c.if-link-eq0.false).0.inside, c.requires.0.within)

pub rows-smaller-then-not-is : goal.rows-smaller-then-not-is
unfolding row_count
rows-smaller-then-not-is c = search_less c.rows.invariant.1 c.if-link-eq0.false c.requires.0 refl

pub rows-preserved-then-not-is : goal.rows-preserved-then-not-is
unfolding row_count
rows-preserved-then-not-is c =
    let a = c.args in
    let row = length a.log.now / 8 - c.rows.link in (
      row + 1,
      search_next c.rows.invariant.1 c.if-link-eq0.false c.requires.0 refl
          (holds_not a.log.now a.predicate a.arguments.now row (sym c.is.ensures ∙ c.if-not-is.true)),
    )

pub loop-i-init : goal.loop-i-init
loop-i-init c =
    let a = c.args in
    let row = length a.log.now / 8 - c.rows.link in
    holds-here a.log.now a.predicate a.arguments.now row (omega (arith, c.requires.1)) (sym c.is.ensures ∙ c.if-not-is.false)
    ∙ sym (rest-start a.log.now (8 * row + 2) a.arguments.now 0)

pub same-requires : goal.same-requires
same-requires c = omega (arith, (search_row c.rows.invariant.1 c.if-link-eq0.false).0.inside, c.requires.1)

pub rows-smaller : goal.rows-smaller
unfolding row_count
rows-smaller c = search_less c.rows.invariant.1 c.if-link-eq0.false c.requires.0 refl

pub rows-preserved : goal.rows-preserved
unfolding row_count
rows-preserved c =
    let a = c.args in
    let row = length a.log.now / 8 - c.rows.link in
    let found = search_row c.rows.invariant.1 c.if-link-eq0.false in
    let inside : row < length a.log.now / 8 = found.0.inside in
    let six = c.requires.1 in (
      row + 1,
      search_next c.rows.invariant.1 c.if-link-eq0.false c.requires.0 refl
          (c.loop-i.invariant ∙ rest-stop a.log.now (8 * row + 2) a.arguments.now
          c.loop-i.i (omega (arith, c.loop-i-test.true)) (omega (arith, c.loop-i-test.true))
          (sym c.same.ensures ∙ c.if-not-same.true)),
    )

pub loop-i-preserved : goal.loop-i-preserved
loop-i-preserved c =
    let a = c.args in
    let row = length a.log.now / 8 - c.rows.link in
    let found = search_row c.rows.invariant.1 c.if-link-eq0.false in
    let inside : row < length a.log.now / 8 = found.0.inside in
    let six = c.requires.1 in
    c.loop-i.invariant ∙ rest-step a.log.now (8 * row + 2) a.arguments.now c.loop-i.i
    (omega (arith, c.loop-i-test.true)) (omega (arith, c.loop-i-test.true)) (sym c.same.ensures ∙ c.if-not-same.false)

pub returns-then-link-eq0 : goal.returns-then-link-eq0
unfolding row_count
returns-then-link-eq0 c = search_none c.rows.invariant.1 c.if-link-eq0.true

pub returns-after-loop-i : goal.returns-after-loop-i
unfolding row_count
returns-after-loop-i c =
    let a = c.args in
    search_found c.rows.invariant.1 c.if-link-eq0.false
    (c.loop-i.invariant ∙ rest_end a.log.now (8 * (length a.log.now / 8 - c.rows.link) + 2) a.arguments.now
    c.loop-i.i (omega (arith, c.requires.1, c.loop-i-test.false)))

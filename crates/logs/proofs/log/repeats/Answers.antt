-- `logs::log::repeats` meets its contract: the first row of the log that holds the row's atom is earlier, or it is the row.
use Prim.Native.Nat.{ℕ, ◌+◌, ◌*◌, ◌-◌}
use native.Mathlib.Omega.{arith}
use mathlib.Core.Path.{◌≡◌, sym, ap, ap₂, ◌∙◌}
use lib.ListN.{take, drop, length-take, length-drop}
use Rattle.model.specs.Lists.{span}
use Rattle.model.specs.Log.{row_count}
use Rattle.chains.specs.Key.{atom_key}
use Rattle.chains.specs.Search.{first_row}
use Rattle.logs.specs.Log.{repeats_at}
use Rattle.chains.proofs.Keys.{own_key, row_small}
use Rattle.logs.proofs.Repeats.{earlier, repeats-first, own-link, own_first}
use Rattle.logs.proofs.log.repeats.Goals as goal

pub overflow_mul-at : goal.overflow_mul-at
unfolding row_count
overflow_mul-at c = omega arith

pub bounds-links-start : goal.bounds-links-start
unfolding row_count
bounds-links-start c =
    let a = c.args in
    let small = row_small a.log.now a.row in
    let own = c.requires.0.keyed a.row c.requires.2 in
    let room = c.requires.1.within in
    omega arith

pub overflow_sub-head : goal.overflow_sub-head
unfolding row_count
overflow_sub-head c =
    let a = c.args in
    let few =
    own-link a.log.now a.links.now c.requires.1 a.row _ (c.requires.0.keyed a.row c.requires.2) in
    omega arith

pub returns-then-head-row : goal.returns-then-head-row
unfolding row_count
returns-then-head-row c =
    let a = c.args in
    sym
    (own_first a.log.now a.links.now c.requires.1 a.row _ (c.requires.0.keyed a.row c.requires.2)
    c.requires.2 c.requires.3 c.if-head-row.true)

pub overflow_add-at : goal.overflow_add-at
unfolding row_count
overflow_add-at c = omega arith

pub overflow_add-at-2 : goal.overflow_add-at-2
unfolding row_count
overflow_add-at-2 c = omega arith

pub offset_bounds-log-at : goal.offset_bounds-log-at
unfolding row_count
offset_bounds-log-at c = omega arith

pub slice_bounds-search-end : goal.slice_bounds-search-end
unfolding row_count
slice_bounds-search-end c = omega arith

pub search-found-requires : goal.search-found-requires
unfolding row_count
search-found-requires c =
    let a = c.args in
    let log = a.log.now in
    let row = a.row in
    let six : (8 * row + 8) - (8 * row + 2) ≡ 6 = omega arith in (
      c.requires.1,
      simp (length-take, length-drop) (omega (arith, c.requires.2)),
      c.requires.0.keyed row
          c.requires.2 ∙ own_key log row c.requires.2 c.requires.3 ∙ sym
          (ap₂ (λ (p n : ℕ). atom_key p (take n (drop (8 * row + 2) log)) 0) c.value.ensures six),
    )

pub returns-in-Some : goal.returns-in-Some
returns-in-Some c =
    let found : let a = c.args in repeats_at a.log.now a.row ≡ earlier a.row c.search-found.result = let a = c.args in
    let log = a.log.now in
    let row = a.row in
    let six : (8 * row + 8) - (8 * row + 2) ≡ 6 = omega arith in
    repeats-first log row c.requires.2 c.requires.3
    (c.search-found.ensures ∙ ap₂ (λ (p n : ℕ). first_row log p (take n (drop (8 * row + 2) log)) (span 0 (row_count log)))
    c.value.ensures six) in
    let a = c.args in
    sym (found ∙ ap (earlier a.row) c.in-Some.is)

pub returns-in-None : goal.returns-in-None
returns-in-None c =
    let found : let a = c.args in repeats_at a.log.now a.row ≡ earlier a.row c.search-found.result = let a = c.args in
    let log = a.log.now in
    let row = a.row in
    let six : (8 * row + 8) - (8 * row + 2) ≡ 6 = omega arith in
    repeats-first log row c.requires.2 c.requires.3
    (c.search-found.ensures ∙ ap₂ (λ (p n : ℕ). first_row log p (take n (drop (8 * row + 2) log)) (span 0 (row_count log)))
    c.value.ensures six) in
    let a = c.args in
    sym (found ∙ ap (earlier a.row) c.in-None.is)

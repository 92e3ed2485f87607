-- `logs::value::value_of` meets its contract: what the row found says, or the predicate's completeness, is the atom's value.
use native.Mathlib.Omega.{arith}
use mathlib.Core.Path.{sym, ◌∙◌}
use Rattle.model.specs.Log.{row_count}
use Rattle.logs.proofs.Values.{first-inside, value_found, by_row, by_complete, by_nothing}
use Rattle.logs.proofs.value.value_of.Goals as goal

pub overflow_mul-row : goal.overflow_mul-row
unfolding row_count
overflow_mul-row c =
    let a = c.args in
    let b = first-inside a.log.now.rows.now a.predicate a.arguments.now _ (row_count a.log.now.rows.now) 0 (sym c.search.ensures ∙ c.in-Some.is) in
    omega arith

pub overflow_add-row : goal.overflow_add-row
unfolding row_count
overflow_add-row c =
    let a = c.args in
    let b = first-inside a.log.now.rows.now a.predicate a.arguments.now _ (row_count a.log.now.rows.now) 0 (sym c.search.ensures ∙ c.in-Some.is) in
    omega arith

pub returns-in-Some : goal.returns-in-Some
returns-in-Some c =
    let a = c.args in
    value_found a.log.now.table.now a.log.now.rows.now a.predicate a.log.now.accepted a.arguments.now c.requires c.search.ensures
    (by_row a.log.now.table.now a.log.now.rows.now a.predicate _ _ c.in-Some.is (sym c.is.ensures))

pub returns-then-complete : goal.returns-then-complete
returns-then-complete c =
    let a = c.args in
    value_found a.log.now.table.now a.log.now.rows.now a.predicate a.log.now.accepted a.arguments.now c.requires c.search.ensures
    (by_complete a.log.now.table.now a.log.now.rows.now a.predicate c.in-None.is (sym c.complete.ensures ∙ c.if-complete.true))

pub returns-else-complete : goal.returns-else-complete
returns-else-complete c =
    let a = c.args in
    value_found a.log.now.table.now a.log.now.rows.now a.predicate a.log.now.accepted a.arguments.now c.requires c.search.ensures
    (by_nothing a.log.now.table.now a.log.now.rows.now a.predicate c.in-None.is (sym c.complete.ensures ∙ c.if-complete.false))

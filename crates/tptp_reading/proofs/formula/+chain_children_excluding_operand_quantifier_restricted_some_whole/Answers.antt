-- The proof of the cycle of calls {chain, children, excluding, operand, quantifier, restricted, some, whole}. The measure is five times the
-- room for parentheses, and more for those that call others in the same room: one more for `operand`, which calls `quantifier` and `some`
-- there, two for `children`, `excluding` and `restricted`, which call `operand`, three for `chain`, which calls `children`, and four for
-- `whole`, which calls `chain`. All other calls are behind a parenthesis.
-- The loop of `children`: the operands passed are read and told behind the first, and there is fuel for those left.
use Prim.Native.Nat.{ℕ, ◌+◌, ◌*◌, min}
use native.Mathlib.Omega.{arith}
use mathlib.Core.Path.{sym, refl, ap, ◌∙◌, subst}
use mathlib.Core.Bool.{Bool, true, false, ◌&&◌}
use lib.Dec.{eqb}
use borrow.Author.Rules.{rules}
use borrow.Author.Tests.{eqb-true, eq-eqb}
use Rattle.model.specs.Level as L
use Rattle.model.specs.Reading.{is_formula}
use Rattle.model.specs.TptpReading.{read_some}
use Rattle.laws.specs.Answer.{passed_on}
use Rattle.laws.specs.Words.Tests.{and_left, and_right}
use Rattle.policies.specs.Node.{as_role}
use Rattle.tptp_tokens.specs.Steps.{Valued}
use Rattle.tptp_tokens.specs.Laying.{most_words}
use Rattle.tptp_binders.specs.Tuples.{TuplesRead}
use Rattle.tptp_state.specs.Told.{Told}
use Rattle.tptp_reading.specs.Formula.{count_of, beneath, RestrictedTold}
use Rattle.tptp_reading.proofs.RoomLaws.{opening-room}
use Rattle.tptp_reading.proofs.ChildrenLaws.{joining-start, joining-over, joining-stop, joining-refused, joining-more}
use Rattle.tptp_reading.proofs.OperandLaws.{operand-over, operand-refused, operand-chain, operand-some, operand-quantifier, operand_skip}
use Rattle.tptp_reading.proofs.OperandLaws.{leaf-byte, not_left, restricts}
use Rattle.tptp_reading.proofs.ChainLaws.{chain-begins, chain-refused, chain-stop, chain-rest, chain_unread, chain-read, whole-chain}
use Rattle.tptp_reading.proofs.ChainLaws.{whole-refused, whole-stop, whole-alone}
use Rattle.tptp_reading.proofs.RestrictionLaws.{excluding-some, excluding-begins, excluding-refused, excluding-other, excluding_unlisted}
use Rattle.tptp_reading.proofs.RestrictionLaws.{excluding_unclosed, excluding-read, excluding-told, restricted-begins, plain-told}
use Rattle.tptp_reading.proofs.RestrictionLaws.{alone-refused, restricted-alone, restricted-refused, restricted-excluding, joint-refused}
use Rattle.tptp_reading.proofs.RestrictionLaws.{restricted-chain}
use Rattle.tptp_reading.proofs.QuantifierLaws.{cost-few, quantifier_unbound, quantifier-refused, quantifier-begins}
use Rattle.tptp_reading.proofs.QuantifierLaws.{quantifier_unrestricted, quantifier_unsigned, quantifier-body, quantifier_bodiless}
use Rattle.tptp_reading.proofs.QuantifierLaws.{quantifier-read}
use Rattle.tptp_reading.proofs.SomeLaws.{some_unbound, some-refused, some-begins, some_childless, some_read}
use Rattle.tptp_reading.proofs.formula.+chain_children_excluding_operand_quantifier_restricted_some_whole.Goals as goal

pub chain-operand-requires : goal.chain-operand-requires
chain-operand-requires t c =
    let a = c.args in
    (omega (arith, c.decreases), chain-begins a.table.now a.room a.above a.scope a.state.now c.enter.new.self c.requires.0 c.requires.1 c.enter.ensures)

pub chain-returns-in_err-operand : goal.chain-returns-in_err-operand
chain-returns-in_err-operand t c =
    let a = c.args in
    rw (passed_on _ c.from_residual.ensures.1)
    (chain-refused a.room a.table.now (as_role a.role) (as_role c.under-below.result) a.above a.scope a.state.now c.enter.new.self a.here.now
    a.stop.now c.stands-every.result c.stands-some.result a.out.now c.operand.new.out c.requires.2
    (c.stands-every.ensures, c.stands-some.ensures) c.under-below.ensures _ _ c.in_err-operand.ensures)

pub chain-returns-then-here-stop : goal.chain-returns-then-here-stop
chain-returns-then-here-stop t c =
    let a = c.args in
    chain-stop a.room a.table.now (as_role a.role) (as_role c.under-below.result) a.above a.scope a.state.now c.enter.new.self a.here.now
    a.stop.now c.stands-every.result c.stands-some.result a.out.now c.operand.new.out c.requires.2
    (c.stands-every.ensures, c.stands-some.ensures) c.under-below.ensures c.operand.new.state c.operand.new.here c.skip.new.here
    c.in_ok-operand.ensures c.skip.ensures c.if-here-stop.true

pub chain-children-requires : goal.chain-children-requires
chain-children-requires t c =
    let a = c.args in (
      omega (arith, c.decreases),
      chain-rest a.room a.table.now (as_role a.role) (as_role c.under-below.result) a.above a.scope a.state.now c.enter.new.self a.here.now
          a.stop.now c.stands-every.result c.stands-some.result a.out.now c.operand.new.out c.requires.2
          (c.stands-every.ensures, c.stands-some.ensures) c.under-below.ensures c.operand.new.state c.operand.new.here c.skip.new.here
          c.in_ok-operand.ensures c.skip.ensures c.if-here-stop.false
          (chain-begins a.table.now a.room a.above a.scope a.state.now c.enter.new.self c.requires.0 c.requires.1 c.enter.ensures),
    )

pub chain-returns-in_err-count : goal.chain-returns-in_err-count
chain-returns-in_err-count t c =
    let a = c.args in
    rw (passed_on _ c.from_residual-in_err-count.ensures.1)
    (chain_unread a.room a.table.now (as_role a.role) (as_role c.under-below.result) a.above a.scope a.state.now c.enter.new.self a.here.now
    a.stop.now c.stands-every.result c.stands-some.result a.out.now c.operand.new.out c.requires.2
    (c.stands-every.ensures, c.stands-some.ensures) c.under-below.ensures c.operand.new.state c.operand.new.here c.skip.new.here
    c.in_ok-operand.ensures c.skip.ensures c.if-here-stop.false _ _ c.in_err-count.ensures)

pub chain-returns : goal.chain-returns
chain-returns t c =
    let a = c.args in
    chain-read a.room a.table.now (as_role a.role) (as_role c.under-below.result) a.above a.scope a.state.now c.enter.new.self a.here.now
    a.stop.now c.stands-every.result c.stands-some.result a.out.now c.operand.new.out c.requires.2
    (c.stands-every.ensures, c.stands-some.ensures) c.under-below.ensures c.operand.new.state c.operand.new.here c.skip.new.here
    c.in_ok-operand.ensures c.skip.ensures c.if-here-stop.false
    c.children.new.state c.children.new.here c.expect.new.here c.in_ok-count.count c.children.new.out c.lay.new.out c.lay-2.new.out
    c.either.result c.expect.result
    c.enter.ensures c.in_ok-count.ensures c.either.ensures c.lay.ensures.0 c.lay-2.ensures.0 c.expect.ensures

pub children-loop-marks-init : goal.children-loop-marks-init
children-loop-marks-init t c =
    let a = c.args in
    joining-start a.room a.every a.table.now (as_role a.role) a.above a.scope a.start a.state.now a.here.now a.out.now c.requires.0 c.requires.1

pub children-returns-in_err-another : goal.children-returns-in_err-another
children-returns-in_err-another t c =
    let a = c.args in
    rw (passed_on _ c.from_residual.ensures.1)
    (joining-over a.room a.every a.table.now (as_role a.role) a.above a.scope a.start a.state.now a.here.now a.out.now c.loop-marks.here
    c.loop-marks.invariant _ c.connective-connective.ensures _ _ c.in_err-another.ensures)

pub children-returns-in_err-operand : goal.children-returns-in_err-operand
children-returns-in_err-operand t c =
    let a = c.args in
    rw (passed_on _ c.from_residual-in_err-operand.ensures.1)
    (joining-refused a.room a.every a.table.now (as_role a.role) a.above a.scope a.start a.state.now a.here.now a.out.now c.loop-marks.here
    c.loop-marks.invariant _ c.connective-connective.ensures _ c.another.new.here c.in_ok-another.ensures.0 c.if-branch.true _ _
    c.in_err-operand.ensures)

pub children-overflow_add-n : goal.children-overflow_add-n
children-overflow_add-n t c =
    let passed = c.in_ok-another.ensures.1 c.if-branch.true in
    omega (arith, c.loop-marks.invariant.few, c.args.here.now.counted, passed, c.in_ok-another.ensures.0.moved.whole)

pub children-loop-marks-smaller : goal.children-loop-marks-smaller
children-loop-marks-smaller t c =
    let passed = c.in_ok-another.ensures.1 c.if-branch.true in
    let m = c.in_ok-operand.ensures.reads.moved in
    omega (arith, passed, c.in_ok-another.ensures.0.moved.whole, m.low, m.whole)

pub children-loop-marks-preserved : goal.children-loop-marks-preserved
children-loop-marks-preserved t c =
    let a = c.args in
    joining-more a.room a.every a.table.now (as_role a.role) a.above a.scope a.start a.state.now a.here.now a.out.now c.loop-marks.here
    c.loop-marks.invariant _ c.connective-connective.ensures _ c.another.new.here c.in_ok-another.ensures.0 c.if-branch.true
    (c.in_ok-another.ensures.1 c.if-branch.true)
    c.hand.new.self c.operand.new.state c.join.new.self c.operand.new.out c.operand.new.here c.in_ok-operand.ensures c.hand.ensures
    c.join.ensures c.operand.auto.out

pub children-returns : goal.children-returns
children-returns t c =
    let a = c.args in
    joining-stop a.room a.every a.table.now (as_role a.role) a.above a.scope a.start a.state.now a.here.now a.out.now c.loop-marks.here
    c.loop-marks.invariant _ c.connective-connective.ensures _ c.another.new.here c.in_ok-another.ensures.0 c.if-branch.false

pub excluding-tuples-listed-requires : goal.excluding-tuples-listed-requires
excluding-tuples-listed-requires t c =
    let a = c.args in
    let b = c.requires.0 in (
      excluding-some a.v a.stop.now.rest.now c.requires.4,
      c.requires.1,
      c.requires.2,
      omega (arith, b.variables),
      b.ready.counted,
    )

pub excluding-operand-requires : goal.excluding-operand-requires
excluding-operand-requires t c =
    let a = c.args in (
      omega (arith, c.decreases),
      excluding-begins a.table.now a.room a.level (a.x + a.v) c.behind_tuples-state.result _ a.state.now c.requires.0 c.behind_tuples-state.ensures,
    )

pub excluding-returns-in_err-operand : goal.excluding-returns-in_err-operand
unfolding is_formula
excluding-returns-in_err-operand t c =
    let a = c.args in
    rw (passed_on _ c.from_residual.ensures.1)
    (excluding-refused a.here.now a.stop.now a.room a.x a.v _ _ c.in_err-operand.ensures)

pub excluding-returns-then-here-stop : goal.excluding-returns-then-here-stop
excluding-returns-then-here-stop t c =
    let a = c.args in
    excluding-other a.here.now a.stop.now a.room a.x a.v _ c.operand.new.here c.skip.new.here c.in_ok-operand.ensures.reads
    c.skip.ensures
    c.requires.1 c.requires.3 c.requires.4 (λ q. omega (arith, q, c.if-here-stop.true))

pub excluding-returns-in_err-count : goal.excluding-returns-in_err-count
excluding-returns-in_err-count t c =
    let a = c.args in
    rw (passed_on _ c.from_residual-in_err-count.ensures.1)
    (excluding_unlisted a.here.now a.stop.now a.room a.x a.v _ c.operand.new.here c.skip.new.here c.in_ok-operand.ensures.reads
    c.skip.ensures
    c.requires.1 c.requires.3 c.requires.4 (omega (arith, c.if-here-stop.false)) _ _
    (subst (TuplesRead a.room a.v a.x a.state.now.words a.out.now c.tuples-listed.new.out a.stop.now c.tuples-listed.new.here)
    c.in_err-count.was c.tuples-listed.ensures))

pub excluding-returns-in_err-expect : goal.excluding-returns-in_err-expect
excluding-returns-in_err-expect t c =
    let a = c.args in
    let found =
    subst (TuplesRead a.room a.v a.x a.state.now.words a.out.now c.tuples-listed.new.out a.stop.now c.tuples-listed.new.here)
    c.in_ok-count.was c.tuples-listed.ensures in
    rw (passed_on _ c.from_residual-in_err-expect.ensures.1)
    (excluding_unclosed a.here.now a.stop.now a.room a.x a.v _ c.operand.new.here c.skip.new.here c.in_ok-operand.ensures.reads
    c.skip.ensures
    c.requires.1 c.requires.3 c.requires.4 (omega (arith, c.if-here-stop.false)) _ c.tuples-listed.new.here found.reads _ _ c.in_err-expect.ensures)

pub excluding-returns : goal.excluding-returns
excluding-returns t c =
    let a = c.args in
    let found =
    subst (TuplesRead a.room a.v a.x a.state.now.words a.out.now c.tuples-listed.new.out a.stop.now c.tuples-listed.new.here)
    c.in_ok-count.was c.tuples-listed.ensures in
    let counted =
    c.behind_tuples-state.ensures
    ∙ ap (λ (n : ℕ). min (a.state.now.words + a.v * n) most_words) (c.count_of.ensures ∙ ap count_of c.in_ok-count.was) in
    let first = c.in_ok-operand.ensures in
    excluding-read a.here.now a.stop.now a.room a.x a.v _ c.operand.new.here c.skip.new.here first.reads c.skip.ensures
    c.requires.1 c.requires.3 c.requires.4 (omega (arith, c.if-here-stop.false)) _ c.tuples-listed.new.here found.reads c.expect.new.here
    c.in_ok-expect.ensures
    (excluding-told a.table.now a.level a.x a.v a.state.now c.operand.new.state a.out.now c.tuples-listed.new.out c.operand.new.out
    c.in_ok-count.count c.behind_tuples-state.result first.what found.what found.holds counted first.holds)

pub operand-returns-in_default : goal.operand-returns-in_default
operand-returns-in_default t c =
    let a = c.args in
    operand-over a.room (is_formula (as_role a.role)) a.scope a.here.now c.skip.new.here c.skip.ensures (search rules)

pub operand-returns-in_err-opening : goal.operand-returns-in_err-opening
operand-returns-in_err-opening t c =
    let a = c.args in
    rw (passed_on _ c.from_residual.ensures.1)
    (operand-refused a.room (is_formula (as_role a.role)) a.scope a.here.now c.skip.new.here c.skip.ensures c.in-Some.field-0.now (search rules)
    c.if-b-eq40.true _ _ c.in_err-opening.ensures)

pub operand-chain-requires : goal.operand-chain-requires
operand-chain-requires t c =
    let a = c.args in
    let room = opening-room a.room c.skip.new.here c.opening.new.here c.in_ok-opening.ensures.reads in
    let less = c.saturating_sub.ensures in (
      omega (arith, c.decreases, room, less),
      (
        record {
          levels = omega (arith, c.requires.levels, room, less);
          variables = omega (arith, c.requires.variables, room, less);
          ready = c.requires.ready;
        },
        omega (arith, c.requires.levels, room, less),
        c.stop-stop.ensures,
      ),
    )

pub operand-returns-then-b-eq40 : goal.operand-returns-then-b-eq40
operand-returns-then-b-eq40 t c =
    let a = c.args in
    operand-chain a.room (is_formula (as_role a.role)) a.scope a.here.now c.skip.new.here c.skip.ensures c.in-Some.field-0.now (search rules)
    c.if-b-eq40.true c.opening.new.here c.in_ok-opening.ensures _ c.saturating_sub.ensures _ c.chain.new.here c.chain.result c.chain.ensures

pub operand-returns-then-formula-b : goal.operand-returns-then-formula-b
operand-returns-then-formula-b t c =
    let a = c.args in
    let both = c.if-formula-b.true in
    operand-quantifier a.room (is_formula (as_role a.role)) a.scope a.here.now c.skip.new.here c.skip.ensures c.in-Some.field-0.now (search rules)
    true (eqb-true c.in-Some.field-0.now 33 (and_right c.is_formula-formula.result _ both))
    (sym c.is_formula-formula.ensures ∙ and_left c.is_formula-formula.result _ both) _ c.quantifier.new.here c.quantifier.result
    c.quantifier.ensures

pub operand-returns-then-formula-b-2 : goal.operand-returns-then-formula-b-2
operand-returns-then-formula-b-2 t c =
    let a = c.args in
    let both = c.if-formula-b-2.true in
    operand-quantifier a.room (is_formula (as_role a.role)) a.scope a.here.now c.skip.new.here c.skip.ensures c.in-Some.field-0.now (search rules)
    false (eqb-true c.in-Some.field-0.now 63 (and_right c.is_formula-formula.result _ both))
    (sym c.is_formula-formula.ensures ∙ and_left c.is_formula-formula.result _ both) _ c.quantifier-then-formula-b-2.new.here
    c.quantifier-then-formula-b-2.result c.quantifier-then-formula-b-2.ensures

pub operand-returns-then-b-eq63 : goal.operand-returns-then-b-eq63
operand-returns-then-b-eq63 t c =
    let a = c.args in
    let mark = eq-eqb c.in-Some.field-0.now 63 c.if-b-eq63.true in
    let no = sym c.is_formula-formula.ensures ∙ not_left c.is_formula-formula.result _ c.if-formula-b-2.false mark in
    operand-some a.room (is_formula (as_role a.role)) a.scope a.here.now c.skip.new.here c.skip.ensures c.in-Some.field-0.now (search rules)
    c.if-b-eq63.true no _ c.some.new.here c.some.result
    (subst
    (λ (role : L.Role). Valued (read_some a.room (beneath a.room) a.scope)
    (λ tree. Told a.table.now tree role a.above a.scope a.state.now c.some.new.state a.out.now c.some.new.out)
    c.skip.new.here c.some.new.here c.some.result)
    (sym (restricts (as_role a.role) no)) c.some.ensures)

pub operand-read_leaf-requires : goal.operand-read_leaf-requires
operand-read_leaf-requires t c =
    let a = c.args in (
      c.requires.ready,
      c.skip.ensures.stop,
      leaf-byte (is_formula (as_role a.role)) c.skip.new.here.rest.now c.in-Some.field-0.now (search rules) c.if-b-eq40.false c.if-b-eq63.false
          (ap (λ (f : Bool). f && eqb c.in-Some.field-0.now 33) (sym c.is_formula-formula.ensures) ∙ c.if-formula-b.false),
    )

pub operand-returns : goal.operand-returns
operand-returns t c =
    let a = c.args in
    operand_skip a.room (is_formula (as_role a.role)) a.scope a.here.now c.skip.new.here c.skip.ensures _ c.read_leaf.new.here
    c.read_leaf.result c.read_leaf.ensures

pub quantifier-returns-in_err-v : goal.quantifier-returns-in_err-v
quantifier-returns-in_err-v t c =
    let a = c.args in
    rw (passed_on _ c.from_residual.ensures.1)
    (quantifier_unbound a.every a.here.now c.pass.new.self a.room a.scope c.requires.1 c.pass.ensures.rest c.pass.ensures.at _ _
    c.in_err-v.ensures)

pub quantifier-returns-in_err-opening : goal.quantifier-returns-in_err-opening
quantifier-returns-in_err-opening t c =
    let a = c.args in
    rw (passed_on _ c.from_residual-in_err-opening.ensures.1)
    (quantifier-refused a.every a.here.now c.pass.new.self a.room a.scope c.requires.1 c.pass.ensures.rest c.pass.ensures.at _
    c.binder.new.here c.in_ok-v.ensures _ _ c.in_err-opening.ensures)

pub quantifier-overflow_add-level : goal.quantifier-overflow_add-level
quantifier-overflow_add-level t c =
    let a = c.args in
    omega (arith, c.cost.ensures, cost-few (as_role a.role) a.every, c.requires.0.levels)

pub quantifier-restricted-requires : goal.quantifier-restricted-requires
quantifier-restricted-requires t c =
    let a = c.args in
    let v = c.in_ok-v.ensures in
    let (falls, begins) =
    quantifier-begins a.every a.here.now c.pass.new.self a.room a.scope c.requires.1 c.pass.ensures.rest c.pass.ensures.at _
    c.binder.new.here v c.opening.new.here c.in_ok-opening.ensures c.saturating_sub.result c.saturating_sub.ensures
    a.table.now (as_role a.role) a.above (a.above + c.cost.result) _ _ c.outer_variables.result a.state.now c.enter.new.self
    c.requires.0 (ap (λ (n : ℕ). a.above + n) c.cost.ensures) refl refl c.enter.ensures c.outer_variables.ensures in
    (omega (arith, falls, c.decreases), (begins, v.1, v.2))

pub quantifier-returns-in_err-excluded : goal.quantifier-returns-in_err-excluded
quantifier-returns-in_err-excluded t c =
    let a = c.args in
    rw (passed_on _ c.from_residual-in_err-excluded.ensures.1)
    (quantifier_unrestricted a.every a.here.now c.pass.new.self a.room a.scope c.requires.1 c.pass.ensures.rest c.pass.ensures.at _
    c.binder.new.here c.in_ok-v.ensures c.opening.new.here c.in_ok-opening.ensures c.saturating_sub.result c.saturating_sub.ensures _ _
    c.in_err-excluded.ensures)

pub quantifier-returns-in_err-implies : goal.quantifier-returns-in_err-implies
quantifier-returns-in_err-implies t c =
    let a = c.args in
    rw (passed_on _ c.from_residual-in_err-implies.ensures.1)
    (quantifier_unsigned a.every a.here.now c.pass.new.self a.room a.scope c.requires.1 c.pass.ensures.rest c.pass.ensures.at _
    c.binder.new.here c.in_ok-v.ensures c.opening.new.here c.in_ok-opening.ensures c.saturating_sub.result c.saturating_sub.ensures
    a.table.now (a.above + c.cost.result) c.enter.new.self c.restricted.new.state a.out.now c.restricted.new.out _ c.restricted.new.here
    c.in_ok-excluded.ensures _ _ c.in_err-implies.ensures)

pub quantifier-operand-requires : goal.quantifier-operand-requires
quantifier-operand-requires t c =
    let a = c.args in
    let (falls, begins) =
    quantifier-begins a.every a.here.now c.pass.new.self a.room a.scope c.requires.1 c.pass.ensures.rest c.pass.ensures.at _
    c.binder.new.here c.in_ok-v.ensures c.opening.new.here c.in_ok-opening.ensures c.saturating_sub.result c.saturating_sub.ensures
    a.table.now (as_role a.role) a.above (a.above + c.cost.result) _ _ c.outer_variables.result a.state.now c.enter.new.self
    c.requires.0 (ap (λ (n : ℕ). a.above + n) c.cost.ensures) refl refl c.enter.ensures c.outer_variables.ensures in (
      omega (arith, falls, c.decreases, c.saturating_sub-2.ensures, c.saturating_sub.ensures),
      quantifier-body a.every a.here.now c.pass.new.self a.room a.scope c.requires.1 c.pass.ensures.rest c.pass.ensures.at _
          c.binder.new.here c.in_ok-v.ensures c.opening.new.here c.in_ok-opening.ensures c.saturating_sub.result c.saturating_sub.ensures
          a.table.now (a.above + c.cost.result) c.enter.new.self c.restricted.new.state a.out.now c.restricted.new.out _ c.restricted.new.here
          c.in_ok-excluded.ensures c.implies.new.here c.in_ok-implies.ensures
          a.state.now c.introduce.new.self c.saturating_sub-2.result c.saturating_sub-2.ensures begins c.introduce.ensures,
    )

pub quantifier-returns-in_err-operand : goal.quantifier-returns-in_err-operand
quantifier-returns-in_err-operand t c =
    let a = c.args in
    rw (passed_on _ c.from_residual-in_err-operand.ensures.1)
    (quantifier_bodiless a.every a.here.now c.pass.new.self a.room a.scope c.requires.1 c.pass.ensures.rest c.pass.ensures.at _
    c.binder.new.here c.in_ok-v.ensures c.opening.new.here c.in_ok-opening.ensures c.saturating_sub.result c.saturating_sub.ensures
    a.table.now (a.above + c.cost.result) c.enter.new.self c.restricted.new.state a.out.now c.restricted.new.out _ c.restricted.new.here
    c.in_ok-excluded.ensures c.implies.new.here c.in_ok-implies.ensures c.saturating_sub-2.result c.saturating_sub-2.ensures _ _
    c.in_err-operand.ensures)

pub quantifier-returns : goal.quantifier-returns
quantifier-returns t c =
    let a = c.args in
    quantifier-read a.every a.here.now c.pass.new.self a.room a.scope c.requires.1 c.pass.ensures.rest c.pass.ensures.at _
    c.binder.new.here c.in_ok-v.ensures c.opening.new.here c.in_ok-opening.ensures c.saturating_sub.result c.saturating_sub.ensures
    a.table.now (a.above + c.cost.result) c.enter.new.self c.restricted.new.state a.out.now c.restricted.new.out _ c.restricted.new.here
    c.in_ok-excluded.ensures c.implies.new.here c.in_ok-implies.ensures c.saturating_sub-2.result c.saturating_sub-2.ensures
    (as_role a.role) a.above c.either.result _ _ a.state.now c.introduce.new.self c.operand.new.state c.operand.new.out
    c.lay.new.out c.lay-2.new.out c.lay-3.new.out _ _ c.outer_variables.result c.operand.new.here c.expect.new.here c.expect.result
    c.requires.2 (ap (λ (n : ℕ). a.above + n) c.cost.ensures) refl refl c.enter.ensures c.outer_variables.ensures
    c.introduce.ensures c.in_ok-operand.ensures c.either.ensures c.lay.ensures.0 c.lay-2.ensures.0 (omega arith)
    c.lay-3.ensures.0 (omega arith) c.expect.ensures

pub restricted-returns-in_err-operand : goal.restricted-returns-in_err-operand
unfolding is_formula
restricted-returns-in_err-operand t c =
    let a = c.args in
    rw (passed_on _ c.from_residual.ensures.1)
    (alone-refused a.here.now a.v a.x a.room (sym c.begins.ensures ∙ c.if-not-begins.true) _ _ c.in_err-operand.ensures)

pub restricted-returns-then-not-begins : goal.restricted-returns-then-not-begins
restricted-returns-then-not-begins t c =
    let a = c.args in
    restricted-alone a.here.now a.v a.x a.room (sym c.begins.ensures ∙ c.if-not-begins.true) c.operand.new.here c.in_ok-operand.ensures
    (λ tree told.
    plain-told a.table.now a.level a.x a.v a.state.now c.operand.new.state a.out.now c.operand.new.out tree c.requires.0.ready.counted told)

pub restricted-returns-in_err-opening : goal.restricted-returns-in_err-opening
restricted-returns-in_err-opening t c =
    let a = c.args in
    rw (passed_on _ c.from_residual-in_err-opening.ensures.1)
    (restricted-refused a.here.now a.v a.x a.room (sym c.begins.ensures ∙ c.if-not-begins.false) _ _ c.in_err-opening.ensures)

pub restricted-excluding-requires : goal.restricted-excluding-requires
restricted-excluding-requires t c =
    let a = c.args in
    let (falls, begins, levels) =
    restricted-begins a.table.now a.room a.level (a.x + a.v) c.saturating_sub.result a.here.now c.opening.new.here a.state.now c.requires.0
    c.in_ok-opening.ensures c.saturating_sub.ensures in (
      omega (arith, falls, c.decreases),
      (begins, c.requires.1, c.requires.2, c.stop-stop.ensures, sym c.begins_excluding.ensures ∙ c.if-begins_excluding.true),
    )

pub restricted-returns-then-begins_excluding : goal.restricted-returns-then-begins_excluding
restricted-returns-then-begins_excluding t c =
    let a = c.args in
    restricted-excluding a.here.now a.v a.x a.room (sym c.begins.ensures ∙ c.if-not-begins.false) c.saturating_sub.result c.opening.new.here
    c.in_ok-opening.ensures c.saturating_sub.ensures
    (RestrictedTold a.table.now a.level a.x a.v a.state.now c.excluding.new.state a.out.now c.excluding.new.out)
    c.excluding.new.here c.excluding.result c.excluding.ensures

pub restricted-chain-requires : goal.restricted-chain-requires
restricted-chain-requires t c =
    let a = c.args in
    let (falls, begins, levels) =
    restricted-begins a.table.now a.room a.level (a.x + a.v) c.saturating_sub-2.result a.here.now c.opening.new.here a.state.now c.requires.0
    c.in_ok-opening.ensures c.saturating_sub-2.ensures in
    (omega (arith, falls, c.decreases), (begins, levels, c.stop-stop.ensures))

pub restricted-returns-in_err-chain : goal.restricted-returns-in_err-chain
restricted-returns-in_err-chain t c =
    let a = c.args in
    rw (passed_on _ c.from_residual-in_err-chain.ensures.1)
    (joint-refused a.here.now a.v a.x a.room (sym c.begins.ensures ∙ c.if-not-begins.false) c.saturating_sub-2.result c.opening.new.here
    c.in_ok-opening.ensures c.saturating_sub-2.ensures
    c.stop-stop.result c.stop-stop.ensures (sym c.begins_excluding.ensures ∙ c.if-begins_excluding.false) _ _ c.in_err-chain.ensures)

pub restricted-returns : goal.restricted-returns
restricted-returns t c =
    let a = c.args in
    restricted-chain a.here.now a.v a.x a.room (sym c.begins.ensures ∙ c.if-not-begins.false) c.saturating_sub-2.result c.opening.new.here
    c.in_ok-opening.ensures c.saturating_sub-2.ensures
    c.stop-stop.result c.stop-stop.ensures (sym c.begins_excluding.ensures ∙ c.if-begins_excluding.false) c.chain.new.here
    c.in_ok-chain.ensures
    (λ tree told.
    plain-told a.table.now a.level a.x a.v a.state.now c.chain.new.state a.out.now c.chain.new.out tree c.requires.0.ready.counted told)

pub some-returns-in_err-binder : goal.some-returns-in_err-binder
some-returns-in_err-binder t c =
    let a = c.args in
    rw (passed_on _ c.from_residual.ensures.1)
    (some_unbound a.here.now c.pass.new.self a.room a.scope c.requires.1 c.pass.ensures.rest c.pass.ensures.at _ _ c.in_err-binder.ensures)

pub some-returns-in_err-opening : goal.some-returns-in_err-opening
some-returns-in_err-opening t c =
    let a = c.args in
    rw (passed_on _ c.from_residual-in_err-opening.ensures.1)
    (some-refused a.here.now c.pass.new.self a.room a.scope c.requires.1 c.pass.ensures.rest c.pass.ensures.at _ c.binder.new.here
    c.in_ok-binder.ensures.0 _ _ c.in_err-opening.ensures)

pub some-whole-requires : goal.some-whole-requires
some-whole-requires t c =
    let a = c.args in
    let (falls, begins, levels) =
    some-begins a.here.now c.pass.new.self a.room a.scope c.requires.1 c.pass.ensures.rest c.pass.ensures.at _ c.binder.new.here
    c.in_ok-binder.ensures.0 c.opening.new.here c.in_ok-opening.ensures a.table.now a.above c.saturating_sub.result _ _
    a.state.now c.enter.new.self c.requires.0 c.saturating_sub.ensures refl refl c.enter.ensures in
    (omega (arith, falls, c.decreases), (begins, levels))

pub some-returns-in_err-whole : goal.some-returns-in_err-whole
some-returns-in_err-whole t c =
    let a = c.args in
    rw (passed_on _ c.from_residual-in_err-whole.ensures.1)
    (some_childless a.here.now c.pass.new.self a.room a.scope c.requires.1 c.pass.ensures.rest c.pass.ensures.at _ c.binder.new.here
    c.in_ok-binder.ensures.0 c.opening.new.here c.in_ok-opening.ensures c.saturating_sub.result c.saturating_sub.ensures _ _
    c.in_err-whole.ensures)

pub some-returns : goal.some-returns
some-returns t c =
    let a = c.args in
    some_read a.here.now c.pass.new.self a.room a.scope c.requires.1 c.pass.ensures.rest c.pass.ensures.at _ c.binder.new.here
    c.in_ok-binder.ensures.0 c.opening.new.here c.in_ok-opening.ensures c.saturating_sub.result c.saturating_sub.ensures
    a.table.now a.above a.state.now c.enter.new.self c.whole.new.state c.drop_variable.new.self a.out.now c.whole.new.out c.lay.new.out
    _ _ c.whole.new.here refl refl c.enter.ensures c.in_ok-whole.ensures c.lay.ensures.0 c.drop_variable.ensures

pub whole-returns-then-every-some : goal.whole-returns-then-every-some
whole-returns-then-every-some t c =
    let a = c.args in
    whole-chain a.room (as_role a.role) a.scope a.here.now c.stop-stop.result c.stands-every.result c.stands-some.result
    c.stop-stop.ensures (c.stands-every.ensures, c.stands-some.ensures) _ c.chain.new.here c.chain.result c.if-every-some.true c.chain.ensures

pub whole-returns-in_err-operand : goal.whole-returns-in_err-operand
whole-returns-in_err-operand t c =
    let a = c.args in
    rw (passed_on _ c.from_residual.ensures.1)
    (whole-refused a.room (as_role a.role) a.scope a.here.now c.stop-stop.result c.stands-every.result c.stands-some.result
    c.stop-stop.ensures (c.stands-every.ensures, c.stands-some.ensures) _ _ c.in_err-operand.ensures)

pub whole-returns-then-parenthesis : goal.whole-returns-then-parenthesis
whole-returns-then-parenthesis t c =
    let a = c.args in
    whole-stop a.room (as_role a.role) a.scope a.here.now c.stop-stop.result c.stands-every.result c.stands-some.result
    c.stop-stop.ensures (c.stands-every.ensures, c.stands-some.ensures)
    c.operand.new.here c.in_ok-operand.ensures c.if-every-some.false _ _ c.begins-parenthesis.ensures (omega arith) c.skip.new.here
    c.skip.ensures c.if-parenthesis.true

pub whole-returns : goal.whole-returns
whole-returns t c =
    let a = c.args in
    whole-alone a.room (as_role a.role) a.scope a.here.now c.stop-stop.result c.stands-every.result c.stands-some.result
    c.stop-stop.ensures (c.stands-every.ensures, c.stands-some.ensures)
    c.operand.new.here c.in_ok-operand.ensures c.if-every-some.false _ _ c.begins-parenthesis.ensures (omega arith) c.if-parenthesis.false
    c.expect.new.here c.expect.result c.expect.ensures

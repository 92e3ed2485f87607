-- The proof of the cycle of calls {formula, formulas, quantified}. The measure is twice the levels left, and one more for
-- `formulas` and `quantified`, which call `formula` at their own level; `formula` calls each of the two a level down.
-- The loop of `formulas`: the formulas left decide.
use Rattle.std.proofs.Common.{refl}
use Rattle.std.specs.Prelude.{◌≡◌}
use Rattle.std.specs.Prelude.{Bool}
use native.Mathlib.Omega.{arith}
use mathlib.Core.Path.{sym, ap, ◌∙◌}
use Rattle.laws.specs.Answer.{passed_on}
use Rattle.policies.specs.Node.{as_tag, as_role}
use Rattle.policies.specs.declared.node.Tag.{Tag}
use Rattle.policies.specs.declared.node.Tag.TheVariants.{Plain, Atom, Compare, Join, Quantifier, Some, Unused}
use Rattle.policies.proofs.Stood.{stood, formula-kind, level-fits, own-fits, next_in, level_in, level_down}
use Rattle.modes.proofs.ModeFormula.{Leaf}
use Rattle.modes.proofs.ModeFormula.{join-kind, join-here, join_asks, quantifier-range, quantifier-here, quantifier_asks}
use Rattle.modes.proofs.ModeFormula.{leaf_asks}
use Rattle.modes.proofs.ModeFormulaLoops.{next_here, next-passed, next-refused, all-passed}
use Rattle.modes.proofs.ModeFormulaLoops.{restriction-refused, variables-missed, body-here, body-asked}
use Rattle.modes.proofs.mode.+formula_formulas_quantified.Goals as goal

-- the tags that are left when joins and quantifiers are not
leaf : (tag : Tag) → (((b : Bool) → tag ≡ Join b → ⊥) × ((b : Bool) → tag ≡ Quantifier b → ⊥)) → Leaf (as_tag tag)
leaf (Plain b) k = tt
leaf (Atom b) k = tt
leaf (Compare b) k = tt
leaf (Join b) k = absurd (k.0 b refl)
leaf (Quantifier b) k = absurd (k.1 b refl)
leaf Some k = tt
leaf Unused k = tt

pub formula-overflow_add-below : goal.formula-overflow_add-below
formula-overflow_add-below t c =
    omega (arith, level-fits _ _ _ _ _ _ c.requires.1 (as_tag c.tag_at-tag.result) c.tag_at-tag.ensures, c.cost.ensures)

pub formula-invariant_of-below : goal.formula-invariant_of-below
formula-invariant_of-below t c = record {
  levels = omega (arith, level-fits _ _ _ _ _ _ c.requires.1 (as_tag c.tag_at-tag.result) c.tag_at-tag.ensures, c.cost.ensures);
  scopes = c.args.depth.scopes;
}

pub formula-invariant_of-below-in-Quantifier : goal.formula-invariant_of-below-in-Quantifier
formula-invariant_of-below-in-Quantifier t c = record {
  levels = omega (arith, level-fits _ _ _ _ _ _ c.requires.1 (as_tag c.tag_at-tag.result) c.tag_at-tag.ensures, c.cost.ensures);
  scopes = c.args.depth.scopes;
}

pub formula-size-requires : goal.formula-size-requires
formula-size-requires t c =
    own-fits c.args.table.now c.args.words.now (as_role c.args.role) c.args.depth.level c.args.depth.scope c.args.at
    c.requires.1
    (as_tag c.tag_at-tag.result)
    c.tag_at-tag.ensures

pub formula-overflow_add-next : goal.formula-overflow_add-next
formula-overflow_add-next t c =
    let node = stood c.requires.0 c.requires.1 c.tag_at-tag.ensures c.cost.ensures c.size.ensures in
    omega (arith, next_in node)

pub formula-formulas-requires : goal.formula-formulas-requires
formula-formulas-requires t c =
    let node = stood c.requires.0 c.requires.1 c.tag_at-tag.ensures c.cost.ensures c.size.ensures in
    let e = ap as_tag c.in-Join.is in (
      omega (arith, level_down node, level_in node, c.decreases),
      (join-kind node e c.under.ensures c.value-n.ensures, join-here node e c.under.ensures c.value-n.ensures),
    )

pub formula-quantified-requires : goal.formula-quantified-requires
formula-quantified-requires t c =
    let node = stood c.requires.0 c.requires.1 c.tag_at-tag.ensures c.cost.ensures c.size.ensures in
    let e = ap as_tag c.in-Quantifier.is in (
      omega (arith, level_down node, level_in node, c.decreases),
      (quantifier-range node e c.value-v.ensures, quantifier-here node e c.value-v.ensures),
    )

pub formula-returns-in-Join : goal.formula-returns-in-Join
formula-returns-in-Join t c =
    let node = stood c.requires.0 c.requires.1 c.tag_at-tag.ensures c.cost.ensures c.size.ensures in
    join_asks node (ap as_tag c.in-Join.is) c.under.ensures c.value-n.ensures
    c.formulas.ensures

pub formula-returns-in-Quantifier : goal.formula-returns-in-Quantifier
formula-returns-in-Quantifier t c =
    let node = stood c.requires.0 c.requires.1 c.tag_at-tag.ensures c.cost.ensures c.size.ensures in
    quantifier_asks node (ap as_tag c.in-Quantifier.is) c.value-v.ensures c.quantified.ensures

pub formula-returns-in_default : goal.formula-returns-in_default
formula-returns-in_default t c =
    let node = stood c.requires.0 c.requires.1 c.tag_at-tag.ensures c.cost.ensures c.size.ensures in
    leaf_asks node (leaf c.tag_at-tag.result (c.in_default.not-Join, c.in_default.not-Quantifier))

pub formulas-formula-requires : goal.formulas-formula-requires
formulas-formula-requires t c =
    let s = c.args in (
      omega (arith, c.decreases),
      (
        c.requires.0,
        next_here s.table.now s.words.now (as_role s.role) s.depth.level s.depth.scope s.n s.at c.loop.counter c.loop.next
            c.loop.invariant.1
            c.loop-test.true
            c.requires.1,
      ),
    )

pub formulas-returns-in_err-next : goal.formulas-returns-in_err-next
formulas-returns-in_err-next t c =
    let s = c.args in
    rw (passed_on _ c.from_residual.ensures.1)
    (next-refused s.table.now s.words.now (as_role s.role) s.depth.level s.depth.scope s.n s.at c.loop.counter c.loop.next
    c.loop.invariant.1
    c.loop-test.true
    c.in_err-next.was
    c.formula.ensures)

pub formulas-loop-preserved : goal.formulas-loop-preserved
formulas-loop-preserved t c =
    let s = c.args in (
      omega (arith, c.loop-test.true),
      next-passed s.table.now s.words.now (as_role s.role) s.depth.level s.depth.scope s.n s.at c.loop.counter c.loop.next
          c.loop.invariant.1
          c.loop-test.true
          c.in_ok-next.was
          c.formula.ensures,
    )

pub formulas-returns : goal.formulas-returns
formulas-returns t c =
    let s = c.args in
    all-passed s.table.now s.words.now (as_role s.role) s.depth.level s.depth.scope s.n s.at c.loop.counter c.loop.next
    c.loop.invariant.1
    c.loop-test.false

pub quantified-returns-in_err-restriction : goal.quantified-returns-in_err-restriction
quantified-returns-in_err-restriction t c =
    let s = c.args in
    rw (passed_on _ c.from_residual.ensures.1)
    (restriction-refused s.table.now s.words.now s.depth.level s.depth.scope s.v s.at s.first
    c.outer.result
    c.outer.ensures
    c.bind.result
    c.bind.ensures
    c.in_err-restriction.was)

pub quantified-returns-then-not-introduced : goal.quantified-returns-then-not-introduced
quantified-returns-then-not-introduced t c =
    let s = c.args in
    variables-missed s.table.now s.words.now s.depth.level s.depth.scope s.v s.at s.first
    c.outer.result
    c.outer.ensures
    c.bind.result
    c.bind.ensures
    c.in_ok-restriction.was
    (sym c.introduced.ensures ∙ c.if-not-introduced.true)

pub quantified-formula-requires : goal.quantified-formula-requires
quantified-formula-requires t c =
    let s = c.args in (
      omega (arith, c.decreases),
      (
        formula-kind,
        body-here s.table.now s.words.now s.depth.level s.depth.scope s.v s.at s.first
            c.outer.result
            c.outer.ensures
            c.bind.result
            c.bind.ensures
            c.in_ok-restriction.was
            c.requires.1,
      ),
    )

pub quantified-returns : goal.quantified-returns
quantified-returns t c =
    let s = c.args in
    body-asked s.table.now s.words.now s.depth.level s.depth.scope s.v s.at s.first
    c.outer.result
    c.outer.ensures
    c.bind.result
    c.bind.ensures
    c.in_ok-restriction.was
    (sym c.introduced.ensures ∙ c.if-not-introduced.false)
    c.formula.result
    c.formula.ensures

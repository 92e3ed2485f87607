-- `matching::rows::lead` meets its contract: each of the two chains has all true rows that can fit.
use Prim.Native.Nat.{◌<◌}
use native.Mathlib.Omega.{arith}
use mathlib.Core.Path.{sym, ◌∙◌}
use Rattle.matching.proofs.WayLaws.{leads-wide, leads-constant, leads-variable, small-first}
use Rattle.matching.proofs.rows.lead.Goals as goal

pub returns-then-is : goal.returns-then-is
returns-then-is c =
    let a = c.args in
    λ log links t. leads-constant a.terms.words.now log links t a.predicate a.terms.first a.terms.n a.environment c.requires.1
    (sym c.is.ensures ∙ c.if-is.true) _ c.of_first.ensures

pub bounds-environment-x : goal.bounds-environment-x
bounds-environment-x c =
    let a = c.args in
    omega (
      arith,
      c.value-x.ensures,
      small-first a.terms.words.now a.terms.first a.terms.n c.requires.1 a.terms.known
          (sym c.is.ensures ∙ c.if-is.false),
    )

pub returns-then-not-environment-x : goal.returns-then-not-environment-x
returns-then-not-environment-x c =
    let a = c.args in
    λ log links t. leads-wide a.terms.words.now log links t a.predicate a.terms.first a.terms.n _ c.requires.0

pub returns : goal.returns
returns c =
    let a = c.args in
    λ log links t. let small : c.value-x.result < 16 = omega (
      arith,
      c.value-x.ensures,
      small-first a.terms.words.now a.terms.first a.terms.n c.requires.1 a.terms.known
          (sym c.is.ensures ∙ c.if-is.false),
    ) in leads-variable a.terms.words.now log links t a.predicate a.terms.first a.terms.n
    a.environment c.value-x.result c.requires.1 (sym c.is.ensures ∙ c.if-is.false) c.value-x.ensures small
    (c.if-not-environment-x.false) _ c.of_first-2.ensures

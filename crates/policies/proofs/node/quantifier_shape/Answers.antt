-- `policies::node::quantifier_shape` meets its contract: each test that failed decides, and the last one does.
use Prim.Native.Nat.{◌+◌}
use mathlib.Core.Path.{◌≡◌, sym, ◌∙◌}
use mathlib.Core.Bool.{true}
use Rattle.model.specs.Words.{word, within}
use Rattle.model.specs.Reading.{is_formula, own}
use Rattle.policies.specs.Node.{as_role}
use Rattle.policies.proofs.node.quantifier_shape.Goals as goal

pub returns-then-not-is_formula : goal.returns-then-not-is_formula
unfolding own
returns-then-not-is_formula c b scope = rw (sym c.is_formula.ensures ∙ c.if-not-is_formula.true)

pub returns-then-not-within : goal.returns-then-not-within
unfolding own
returns-then-not-within c b scope =
    let formal : is_formula (as_role c.args.role) ≡ true = sym c.is_formula.ensures ∙ c.if-not-is_formula.false in
    rw (formal, sym c.within.ensures ∙ c.if-not-within.true)

pub returns-then-not-at_least : goal.returns-then-not-at_least
unfolding own
returns-then-not-at_least c b scope =
    let formal : is_formula (as_role c.args.role) ≡ true = sym c.is_formula.ensures ∙ c.if-not-is_formula.false in
    let few : within 1 4 (word c.args.spot.words.now (c.args.spot.at + 1)) ≡ true = sym c.within.ensures ∙ c.if-not-within.false in
    rw (
      formal,
      few,
      sym c.at_least.ensures ∙ c.if-not-at_least.true,
    )

pub returns : goal.returns
unfolding own
returns c b scope =
    let formal : is_formula (as_role c.args.role) ≡ true = sym c.is_formula.ensures ∙ c.if-not-is_formula.false in
    let few : within 1 4 (word c.args.spot.words.now (c.args.spot.at + 1)) ≡ true = sym c.within.ensures ∙ c.if-not-within.false in
    rw (
      formal,
      few,
      sym c.at_least.ensures ∙ c.if-not-at_least.false,
    )
    (c.tuples_there.ensures b (as_role c.args.role) scope)

-- `matching::fitting::fit_row` meets its contract. The loop's invariant: the environment so far stands for one from which the
-- terms and arguments from number i on make what all of them make of the first.
use Prim.Native.Nat.{◌+◌, ◌*◌}
use native.Mathlib.Omega.{arith}
use mathlib.Core.Path.{sym, subst, ◌∙◌}
use lib.ListN.{get_or}
use lib.IntN.{ℤ, pos}
use mir.Syntax.{w32}
use mir.Val.{SFits}
use mir.Facts.{to_z-of_z}
use borrow.Author.Rules.{rules}
use Rattle.model.specs.Listing.{bind}
use Rattle.environments.specs.Environment.{Holds}
use Rattle.matching.proofs.FitLaws.{going_first, going_last, next_small, constant_on, constant-left, variable_on, variable-left}
use Rattle.matching.proofs.FitLaws.{variable-bound}
use Rattle.words.proofs.Signed.{bits-equal, bits-unequal}
use Rattle.matching.proofs.fitting.fit_row.Goals as goal

pub loop-i-init : goal.loop-i-init
loop-i-init c = let a = c.args in going_first a.terms.words.now a.terms.first a.terms.n a.row.log.now a.row.number a.environment

pub loop-i-preserved-then-word-argument : goal.loop-i-preserved-then-word-argument
loop-i-preserved-then-word-argument c =
    let fits : SFits w32 (get_or c.args.row.log.now (8 * c.args.row.number + 2 + c.loop-i.i) (pos 0)) = search rules in
    constant_on c.args.row.there c.args.terms.few c.loop-i-test.true c.loop-i.invariant
    (sym c.is.ensures ∙ c.if-is.true) c.word.result c.word.ensures
    (bits-equal _ _ (search rules) fits c.if-word-argument.true)

pub returns-then-is : goal.returns-then-is
returns-then-is c =
    let fits : SFits w32 (get_or c.args.row.log.now (8 * c.args.row.number + 2 + c.loop-i.i) (pos 0)) = search rules in
    constant-left c.args.row.there c.args.terms.few c.loop-i-test.true c.loop-i.invariant
    (sym c.is.ensures ∙ c.if-is.true) c.word.result c.word.ensures
    (bits-unequal _ _ (search rules) fits c.if-word-argument.false)

pub bounds-bound-x : goal.bounds-bound-x
bounds-bound-x c = next_small c.args.row.there c.args.terms.few c.loop-i-test.true c.loop-i.invariant c.args.terms.known (sym c.is.ensures ∙ c.if-is.false) c.value-x.ensures

pub bind-bound-requires : goal.bind-bound-requires
bind-bound-requires c = next_small c.args.row.there c.args.terms.few c.loop-i-test.true c.loop-i.invariant c.args.terms.known (sym c.is.ensures ∙ c.if-is.false) c.value-x.ensures

pub loop-i-preserved-then-not-bound-x : goal.loop-i-preserved-then-not-bound-x
loop-i-preserved-then-not-bound-x c =
    let fits : SFits w32 (get_or c.args.row.log.now (8 * c.args.row.number + 2 + c.loop-i.i) (pos 0)) = search rules in
    let x = c.value-x.result in
    let variable = sym c.is.ensures ∙ c.if-is.false in
    variable-bound c.args.row.there c.args.terms.few c.loop-i-test.true c.loop-i.invariant
    variable x c.value-x.ensures (next_small c.args.row.there c.args.terms.few c.loop-i-test.true c.loop-i.invariant c.args.terms.known variable c.value-x.ensures) c.bind-bound.result
    (λ f h. subst (λ (k : ℤ). Holds c.bind-bound.result (bind f x k)) (to_z-of_z fits) (c.bind-bound.ensures f h))
    c.if-not-bound-x.true

pub offset_bounds-bound-x : goal.offset_bounds-bound-x
offset_bounds-bound-x c =
    omega (arith, next_small c.args.row.there c.args.terms.few c.loop-i-test.true c.loop-i.invariant c.args.terms.known (sym c.is.ensures ∙ c.if-is.false) c.value-x.ensures)

pub bounds-bound-x-in-loop-i : goal.bounds-bound-x-in-loop-i
bounds-bound-x-in-loop-i c = next_small c.args.row.there c.args.terms.few c.loop-i-test.true c.loop-i.invariant c.args.terms.known (sym c.is.ensures ∙ c.if-is.false) c.value-x.ensures

pub returns-then-bound-x : goal.returns-then-bound-x
returns-then-bound-x c =
    let fits : SFits w32 (get_or c.args.row.log.now (8 * c.args.row.number + 2 + c.loop-i.i) (pos 0)) = search rules in
    let variable = sym c.is.ensures ∙ c.if-is.false in
    variable-left c.args.row.there c.args.terms.few c.loop-i-test.true c.loop-i.invariant
    variable c.value-x.result c.value-x.ensures (next_small c.args.row.there c.args.terms.few c.loop-i-test.true c.loop-i.invariant c.args.terms.known variable c.value-x.ensures)
    c.if-not-bound-x.false (bits-unequal _ _ (search rules) fits c.if-bound-x.true)

pub loop-i-preserved : goal.loop-i-preserved
loop-i-preserved c =
    let fits : SFits w32 (get_or c.args.row.log.now (8 * c.args.row.number + 2 + c.loop-i.i) (pos 0)) = search rules in
    let variable = sym c.is.ensures ∙ c.if-is.false in
    variable_on c.args.row.there c.args.terms.few c.loop-i-test.true c.loop-i.invariant
    variable c.value-x.result c.value-x.ensures (next_small c.args.row.there c.args.terms.few c.loop-i-test.true c.loop-i.invariant c.args.terms.known variable c.value-x.ensures)
    c.if-not-bound-x.false (bits-equal _ _ (search rules) fits c.if-bound-x.false)

pub returns : goal.returns
returns c = going_last c.loop-i-test.false c.loop-i.invariant

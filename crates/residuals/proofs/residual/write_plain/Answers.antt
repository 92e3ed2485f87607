-- `residuals::residual::write_plain` meets its contract.
use Prim.Native.Nat.{ℕ}
use native.Mathlib.Omega.{arith}
use mathlib.Core.Path.{◌≡◌, refl, sym, ap, ◌∙◌}
use mathlib.Core.Bool.{Bool, true, false, cond}
use borrow.Author.Rules.{rules}
use borrow.Author.Tests.{eqb-true, eqb-false}
use lib.IntN.{pos}
use mir.Syntax.{w32}
use mir.Val.{bool_byte, to_z, of_z}
use Rattle.residuals.proofs.ReduceSettling.{plain-no-room, plain-written}
use Rattle.residuals.proofs.residual.write_plain.Goals as goal

-- a Bool as a word
word : (value : Bool) → bool_byte value ≡ cond value 1 0
word true = refl
word false = refl

pub returns-then-is_empty : goal.returns-then-is_empty
returns-then-is_empty c =
    plain-no-room c.args.value c.args.buffer.now (omega (arith, eqb-true _ 0 (sym c.is_empty.ensures ∙ c.if-is_empty.true)))

pub returns : goal.returns
returns c =
    let back : to_z w32 (of_z w32 c.from.result) ≡ c.from.result = search rules in
    plain-written c.args.value c.args.buffer.now _ _ (back ∙ c.from.ensures ∙ ap (λ (n : ℕ). pos n) (word _ ∙ grind arith)) (omega arith)
    (omega (arith, eqb-false _ 0 (sym c.is_empty.ensures ∙ c.if-is_empty.false)))

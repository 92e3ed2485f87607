-- `environments::terms::number` meets its contract: a term in scope that is no constant is a variable below 16.
use Prim.Native.Nat.{ℕ}
use native.Mathlib.Omega.{arith}
use mathlib.Core.Path.{◌≡◌, sym, ap, ◌∙◌}
use mathlib.Core.List.{List}
use lib.ListN.{get_or}
use lib.IntN.{ℤ, pos}
use mir.Syntax.{w32}
use mir.Val.{to_z, of_z}
use mathlib.Core.Bool.{false}
use Rattle.model.specs.Words.{word, equal}
use Rattle.model.specs.Listing.{number_in}
use Rattle.policies.proofs.TermLaws.{variable-small}
use Rattle.environments.proofs.Places.{number_at}
use Rattle.environments.proofs.TermLaws.{constant_number, variable-number}
use borrow.Author.Rules.{rules}
use Rattle.environments.proofs.terms.number.Goals as goal

pub returns-then-is : goal.returns-then-is
returns-then-is c = λ e h.
    let a = c.args in
    let back : to_z w32 (of_z w32 c.word.result) ≡ c.word.result = search rules in
    back ∙ c.word.ensures ∙ constant_number e a.words.now a.at (sym c.is.ensures ∙ c.if-is.true)

pub offset_bounds-numbers-x : goal.offset_bounds-numbers-x
offset_bounds-numbers-x c =
    omega (arith, c.value-x.ensures, variable-small c.args.words.now c.args.at 16 c.requires.2 (sym c.is.ensures ∙ c.if-is.false))

pub bounds-numbers-x : goal.bounds-numbers-x
bounds-numbers-x c =
    omega (arith, c.requires.0, c.value-x.ensures, variable-small c.args.words.now c.args.at 16 c.requires.2 (sym c.is.ensures ∙ c.if-is.false))

pub returns : goal.returns
returns c = λ e h.
    let a = c.args in
    let x = c.value-x.result in
    let not : equal (word a.words.now a.at) (pos 0) ≡ false = sym c.is.ensures ∙ c.if-is.false in
    let small = variable-small a.words.now a.at 16 c.requires.2 not in
    let v = get_or a.numbers.now x (pos 0) in
    let back : to_z w32 (of_z w32 v) ≡ v = search rules in
    back
    ∙ ap (λ (ns : List ℤ). get_or ns x (pos 0)) h
    ∙ number_at e x (omega (arith, c.value-x.ensures))
    ∙ ap (λ (y : ℕ). number_in (e y)) c.value-x.ensures
    ∙ variable-number e a.words.now a.at not

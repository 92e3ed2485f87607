-- `trees::putting::put_term` meets its contract: by the first word, and by the number of the variable.
use Prim.Native.Nat.{◌+◌, ◌-◌}
use native.Mathlib.Omega.{arith}
use mathlib.Core.Path.{◌≡◌, sym, ap, ◌∙◌}
use mathlib.Core.Bool.{false}
use lib.ListN.{length, get_or}
use lib.IntN.{pos}
use mir.Syntax.{w32}
use mir.Val.{SFits, to_z, of_z}
use mir.Facts.{to_z-of_z}
use Rattle.model.specs.Words.{word, equal}
use Rattle.trees.proofs.TermWords.{stored, term-constant, term-fits, term-outer, term-inner}
use borrow.Author.Rules.{rules}
use Rattle.trees.proofs.putting.put_term.Goals as goal

pub returns-then-is : goal.returns-then-is
unfolding word
returns-then-is c =
    let a = c.args in
    let z = get_or a.words.now (a.from + 1) (pos 0) in
    let back : to_z w32 (of_z w32 z) ≡ z = search rules in
    λ t stands.
    stored a.out.now a.to _ _ z _ c.requires.1 back
    (term-constant a.numbers.now a.words.now a.from t stands (sym c.is.ensures ∙ c.if-is.true))

pub returns-then-x-numbers : goal.returns-then-x-numbers
returns-then-x-numbers c =
    let other : let a = c.args in equal (word a.words.now a.from) (pos 0) ≡ false = sym c.is.ensures ∙ c.if-is.false in
    let a = c.args in
    let z = get_or a.numbers.now c.value-x.result (pos 0) in
    let back : to_z w32 (of_z w32 z) ≡ z = search rules in
    λ t stands.
    stored a.out.now a.to _ _ _ _ c.requires.1
    (back ∙ ap (λ i. get_or a.numbers.now i (pos 0)) c.value-x.ensures)
    (term-outer a.numbers.now a.words.now a.from (other) t stands
    (omega (arith, c.value-x.ensures, c.if-x-numbers.true)))

pub overflow_cast-out : goal.overflow_cast-out
unfolding word
overflow_cast-out c =
    let a = c.args in
    let (t, stands) = c.requires.0 in
    let z = get_or a.words.now (a.from + 1) (pos 0) in
    let fits : SFits w32 z = search rules in
    term-fits a.numbers.now a.words.now a.from (sym c.is.ensures ∙ c.if-is.false) t stands fits _ c.value-x.ensures

pub returns : goal.returns
unfolding word
returns c =
    let a = c.args in
    let z = get_or a.words.now (a.from + 1) (pos 0) in
    let fits : SFits w32 z = search rules in
    let other : equal (word a.words.now a.from) (pos 0) ≡ false = sym c.is.ensures ∙ c.if-is.false in
    λ t stands.
    stored a.out.now a.to _ _ _ _ c.requires.1
    (to_z-of_z (term-fits a.numbers.now a.words.now a.from other t stands fits c.value-x.result c.value-x.ensures)
    ∙ ap (λ n. pos (n - length a.numbers.now)) c.value-x.ensures)
    (term-inner a.numbers.now a.words.now a.from other t stands (omega (arith, c.value-x.ensures, c.if-x-numbers.false)))

-- `modes::marks::Marks::term_bound` meets its contract: a term in scope that is no constant is a variable below 16.
use native.Mathlib.Omega.{arith}
use mathlib.Core.Path.{sym, ap, ◌∙◌}
use Rattle.modes.specs.Mode.{set_of}
use Rattle.policies.proofs.TermLaws.{variable-small}
use Rattle.modes.proofs.ModeTerms.{constant-bound, variable-bound}
use Rattle.modes.proofs.marks.Marks.term_bound.Goals as goal

pub returns-then-is : goal.returns-then-is
returns-then-is c =
    let a = c.args in
    constant-bound a.words.now a.i _ (sym c.is.ensures ∙ c.if-is.true)

pub has-requires : goal.has-requires
has-requires c =
    let small =
    variable-small c.args.words.now c.args.i 16 c.requires.1
    (sym c.is.ensures ∙ c.if-is.false) in
    omega (arith, c.value.ensures, small)

pub returns : goal.returns
returns c =
    c.has.ensures
    ∙ ap (set_of c.args.self) c.value.ensures
    ∙ variable-bound c.args.words.now c.args.i (set_of c.args.self) (sym c.is.ensures ∙ c.if-is.false)

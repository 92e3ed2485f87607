-- `modes::marks::Marks::all_bound` meets its contract.
use Prim.Native.Nat.{◌+◌, ◌*◌}
use native.Mathlib.Omega.{arith}
use mathlib.Core.Path.{◌∙◌}
use Rattle.std.proofs.iter.Serving.{serving}
use borrow.Author.Rules.{rules}
use borrow.Author.Tests.{tests}
use Rattle.std.proofs.lemmas.Iterator.{YieldsList-from_range}
use Rattle.std.proofs.lemmas.Iterator.Search.{all_from_yields_List}
use Rattle.model.specs.Reading.{term_at, in_scope}
use Rattle.model.specs.Mode.{is_bound}
use Rattle.modes.specs.Mode.{set_of}
use Rattle.policies.proofs.TermLaws.{place-holds}
use Rattle.modes.proofs.ModeTerms.{bound-places}
use Rattle.modes.proofs.marks.Marks.all_bound.Goals as goal

pub all-requires-clause-callable : goal.all-requires-clause-callable
all-requires-clause-callable c =
    let a = c.args in grind (serving, arith, a.terms.known, place-holds (in_scope a.terms.words.now 16) a.terms.first a.terms.n)

pub returns : goal.returns
returns c =
    let a = c.args in
    all_from_yields_List (λ i. is_bound (set_of a.self) (term_at a.terms.words.now (a.terms.first + 2 * i))) _ _ _ c.all.ensures.ran
    (YieldsList-from_range 0 a.terms.n a.terms.n (cc) (omega arith))
    (λ x b q k. search (rules, tests))
    ∙ bound-places a.terms.words.now (set_of a.self) a.terms.first a.terms.n

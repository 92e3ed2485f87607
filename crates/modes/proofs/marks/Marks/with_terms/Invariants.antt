-- `modes::marks::Marks::with_terms` meets its contract. The loop's invariant: the set so far, with the terms from number i on, is what is asked.
use Prim.Native.Nat.{◌≤◌}
use mathlib.Core.Path.{◌≡◌}
use lib.ListN.{length}
use Rattle.policies.specs.Standing.{terms_at}
use Rattle.modes.specs.Mode.{marked, with_terms}
use Rattle.policies.proofs.TermLaws.{terms_from}
use Rattle.modes.proofs.marks.Marks.with_terms.Given as goal

abbrev pub invariant-loop-i : goal.invariant-loop-i
invariant-loop-i l =
    (l.i ≤ l.terms.n)
    × (length l.marks ≡ 16)
    × (with_terms (marked l.initial.marks) (terms_at l.terms.words.now l.terms.first l.terms.n) ≡ with_terms (marked l.marks) (terms_from l.terms.words.now l.terms.first l.terms.n l.i))

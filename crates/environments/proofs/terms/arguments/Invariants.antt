-- `environments::terms::arguments` meets its contract. The loop's invariant: the numbers so far, with those of the terms from
-- number i on, are what is asked, and zeros stand behind.
use Prim.Native.Nat.{◌-◌}
use mathlib.Core.Path.{◌≡◌}
use mathlib.Core.List.{◌++◌}
use lib.ListN.{length, take, drop, replicate}
use lib.IntN.{pos}
use Rattle.model.specs.Listing.{Environment, numbers_in}
use Rattle.policies.specs.Standing.{terms_at}
use Rattle.environments.specs.Environment.{numbers_of}
use Rattle.environments.proofs.TermLaws.{numbers_from}
use Rattle.environments.proofs.terms.arguments.Given as goal

abbrev pub invariant-loop-i : goal.invariant-loop-i
invariant-loop-i l =
    (length l.arguments ≡ 6)
    × (drop l.i l.arguments ≡ replicate (6 - l.i) (pos 0))
    × ((e : Environment) →
    l.numbers ≡ numbers_of e →
    numbers_in e (terms_at l.terms.words.now l.terms.first l.terms.n) ≡ take l.i l.arguments ++ numbers_from e l.terms.words.now l.terms.first l.terms.n l.i)

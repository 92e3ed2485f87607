-- `words::equal_words` meets its contract. The loop's invariant: the words are equal if those from number i on are.
use Prim.Native.Nat.{◌-◌, ◌≤◌}
use mathlib.Core.Path.{◌≡◌}
use lib.ListN.{take, drop}
use Rattle.model.specs.Words.{equal_all}
use Rattle.words.proofs.PartLaws.{equal_from}
use Rattle.words.proofs.equal_words.Given as goal

abbrev pub invariant-loop-i : goal.invariant-loop-i
invariant-loop-i l =
    (l.i ≤ l.n) × (equal_all (take l.n (drop l.at l.a)) (take l.n (drop l.from l.b)) ≡ equal_from l.a l.at l.b l.from l.n l.i)

abbrev pub decreases-loop-i : goal.decreases-loop-i
decreases-loop-i l = l.n - l.i

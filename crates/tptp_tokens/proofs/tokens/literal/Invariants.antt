-- `tptp_tokens::tokens::literal` meets its contract. The loop's invariant: the bytes so far stand here.
use Prim.Native.Nat.{◌+◌, ◌≤◌}
use mathlib.Core.Path.{◌≡◌}
use lib.ListN.{length, drop}
use Rattle.model.specs.TptpReading.{literal}
use Rattle.tptp_tokens.specs.Steps.{from}
use Rattle.tptp_tokens.proofs.tokens.literal.Given as goal

abbrev pub invariant-loop-i : goal.invariant-loop-i
invariant-loop-i l =
    (l.here ≡ l.fn.here) × (l.i ≤ length l.fn.here.rest.now)
    × (from (literal l.word) l.fn.here ≡ literal (drop l.i l.word) (drop l.i l.fn.here.rest.now) (l.fn.here.at + l.i))

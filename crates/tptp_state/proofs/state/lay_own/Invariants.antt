-- `tptp_state::state::lay_own` meets its contract. The loop's invariant: so many words are laid.
use mathlib.Core.Path.{◌≡◌}
use lib.ListN.{take}
use lib.Seq.{sets}
use Rattle.tptp_state.proofs.state.lay_own.Given as goal

abbrev pub invariant-loop-i : goal.invariant-loop-i
invariant-loop-i l = l.out ≡ sets l.initial.out l.w (take l.i l.own)

-- `tptp_state::state::lay_own` meets its contract. The loop's invariant: so many words are laid.
use native.Mathlib.Omega.{arith}
use mathlib.Core.Path.{◌∙◌}
use Rattle.tptp_state.proofs.StateLaws.{laid_more}
use Rattle.tptp_state.proofs.state.lay_own.Goals as goal

pub loop-i-preserved : goal.loop-i-preserved
loop-i-preserved c =
    let a = c.args in
    c.lay_word.ensures ∙ laid_more a.out.now c.loop-i.out a.own.now a.w c.loop-i.i
    (omega (arith, c.loop-i-test.true, c.requires.0)) c.loop-i.invariant

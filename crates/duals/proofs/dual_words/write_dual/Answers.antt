-- `duals::dual_words::write_dual` meets its contract, from what the three calls leave in the buffer.
use mathlib.Core.Path.{◌≡◌}
use mathlib.Core.List.{◌++◌}
use lib.ListN.{length, drop}
use Rattle.duals.proofs.DualBuffer.{copied_front}
use Rattle.duals.proofs.DualSwap.{front_again}
use Rattle.duals.proofs.dual_words.write_dual.Goals as goal

pub swap-requires : goal.swap-requires
swap-requires c =
    let copied : let a = c.args in c.copy_words.new.out ≡ a.words.now ++ drop (length a.words.now) a.buffer.now = let a = c.args in copied_front a.words.now a.buffer.now _ c.copy_words.ensures in
    (front_again c.args.words.now _ c.copy_words.new.out (copied), c.requires.1)

-- `environments::environment::marks_word` meets its contract. The loop's invariant: the number has the bits of the marks from i on.
use Prim.Native.Nat.{ℕ, ◌-◌, ◌<◌}
use native.Mathlib.Omega.{arith}
use mathlib.Core.Path.{◌≡◌, sym, ap}
use mathlib.Core.Bool.{Bool, false}
use mathlib.Core.List.{List}
use lib.ListN.{length, get_or, drop, length-drop, drop_of_length-le}
use borrow.Author.Rules.{rules}
use Rattle.environments.specs.Environment.{bits}
use Rattle.environments.proofs.Places.{bits_small}
use Rattle.environments.proofs.Filling.{byte_small, bits-more}
use Rattle.environments.proofs.environment.marks_word.Goals as goal

-- the bits of the marks from i on are a small number
small : (marks : List Bool) (i word : ℕ) → length marks ≡ 16 → word ≡ bits (drop i marks) → word < 65536
small marks i word n e =
    let b = bits_small (drop i marks) (rw (length-drop i marks) (omega arith)) in
    omega arith

pub loop-i-init : goal.loop-i-init
unfolding bits
loop-i-init c =
    let sixteen : length c.args.marks ≡ 16 = search rules in
    sym (ap bits (drop_of_length-le c.args.marks {i = 16} (omega arith)))

pub overflow_mul-word : goal.overflow_mul-word
overflow_mul-word c = omega (arith, small c.args.marks c.loop-i.i _ (search rules) c.loop-i.invariant)

pub overflow_add-word : goal.overflow_add-word
overflow_add-word c =
    omega (arith, small c.args.marks c.loop-i.i _ (search rules) c.loop-i.invariant, byte_small (get_or c.args.marks (c.loop-i.i - 1) false))

pub loop-i-preserved : goal.loop-i-preserved
loop-i-preserved c =
    let sixteen : length c.args.marks ≡ 16 = search rules in
    bits-more c.args.marks c.loop-i.i c.loop-i.word c.loop-i-test.true (omega arith) c.loop-i.invariant

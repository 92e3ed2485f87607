-- A word of 32 bits as a number with no sign: its distance from the least word.
use Rattle.std.specs.Prelude.{ℕ, ℤ, pos, nat_abs, ◌+ℤ◌}

unfoldable pub from_least : ℤ → ℕ
from_least z = nat_abs (z +ℤ pos 2147483648)

-- Laws for what is read behind a parenthesis: there was room for it, and what is read there has room for one less.
use Prim.Native.Nat.{ℕ, zero, suc, ◌-◌, ◌≤◌}
use native.Mathlib.Omega.{arith}
use mathlib.Core.Path.{◌≡◌, ap}
use Rattle.text.specs.declared.cursor.Cursor.{Cursor}
use Rattle.model.specs.TptpReading.{opening, readers}
use Rattle.laws.specs.Tptp.Refusing.Local.{opening-none}
use Rattle.tptp_tokens.specs.Steps.{from, got}
use Rattle.tptp_reading.specs.Formula.{beneath}

-- a parenthesis was opened
pub opening-room : (room : ℕ) (old new : Cursor) → from (opening room) old ≡ got tt new → 1 ≤ room
opening-room zero old new e = absurd (opening-none old.rest.now old.at _ e)
opening-room (suc room) old new e = omega arith

-- what is read behind it
pub beneath_less : (room lower : ℕ) → 1 ≤ room → lower ≡ room - 1 → beneath room ≡ readers lower
unfolding beneath
beneath_less zero lower h e = absurd (omega arith)
beneath_less (suc room) lower h e = ap readers (let k : room ≡ lower = omega arith in k)

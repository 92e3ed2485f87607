-- Laws for places of one text.
use Prim.Native.Nat.{ℕ, ◌+◌, ◌-◌, ◌≤◌}
use native.Mathlib.Omega.{arith}
use mathlib.Core.Path.{◌≡◌, refl, sym, ap, ◌∙◌}
use lib.ListN.{length, drop, length-drop}
use lib.Seq.{drop-drop}
use Rattle.text.specs.declared.cursor.Cursor.{Cursor}
use Rattle.model.specs.Bytes.{Text}
use Rattle.tptp_tokens.specs.Steps.{Moved}

pub still : (c : Cursor) → Moved c c
still c =
    let same : c.at - c.at ≡ 0 = omega arith in
    record { low = omega arith; whole = refl; rest = ap (λ (k : ℕ). drop k c.rest.now) (sym same) }

pub further : (a b c : Cursor) → Moved a b → Moved b c → Moved a c
further a b c m n =
    let sum : b.at - a.at + (c.at - b.at) ≡ c.at - a.at = omega (arith, m.low, n.low) in
    record {
      low = omega (arith, m.low, n.low);
      whole = n.whole ∙ m.whole;
      rest =
          n.rest
          ∙ ap (λ (t : Text). drop (c.at - b.at) t) m.rest
          ∙ drop-drop (c.at - b.at) (b.at - a.at) a.rest.now
          ∙ ap (λ (k : ℕ). drop k a.rest.now) sum;
    }

-- so many bytes were passed
pub past :
    (old new : Cursor) (n : ℕ) → n ≤ length old.rest.now → new.rest.now ≡ drop n old.rest.now → new.at ≡ old.at + n →
    Moved old new
past old new n l r e =
    let count : n ≡ new.at - old.at = omega (arith, e) in
    let shorter = length-drop n old.rest.now in
    record {
      low = omega (arith, e);
      whole = omega (arith, e, ap length r, shorter, l);
      rest = r ∙ ap (λ (k : ℕ). drop k old.rest.now) count;
    }

-- two places of a text with the same index have the same bytes left
pub same_place : (a b c : Cursor) → Moved a b → Moved a c → b.at ≡ c.at → b.rest.now ≡ c.rest.now
same_place a b c m n e = m.rest ∙ ap (λ (k : ℕ). drop (k - a.at) a.rest.now) e ∙ sym n.rest

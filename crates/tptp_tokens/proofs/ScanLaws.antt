-- Laws for bytes that are passed while they meet a test: a reader of them comes to the first byte that does not.
use Prim.Native.Nat.{ℕ, suc, ◌+◌, ◌<◌}
use native.Mathlib.Omega.{arith}
use mathlib.Core.Path.{◌≡◌, refl, sym, ap, ◌∙◌}
use mathlib.Core.Bool.{Bool, true, false, cond}
use mathlib.Core.List.{[], ◌∷◌}
use lib.ListN.{length, drop, length-drop}
use lib.Seq.{get_or-drop}
use Rattle.std.specs.Prelude.{slice_get, Some}
use Rattle.std.specs.List.{prefix_len}
use Rattle.std.proofs.lemmas.List.Sums.{prefix_len-le-length, prefix_len_stops}
use Rattle.std.proofs.lemmas.Option.{slice_get_within, get_or_from_slice_get}
use Rattle.text.specs.declared.cursor.Cursor.{Cursor}
use Rattle.model.specs.Bytes.{Text}
use Rattle.model.specs.Answer.{passed}
use Rattle.model.specs.TptpReading.{Reader}
use Rattle.tptp_tokens.specs.Steps.{Reads}
use Rattle.tptp_tokens.proofs.MovedLaws.{past}

-- a reader that passes each byte that meets a test, and stops at any other and at the text's end
module _
    (test : ℕ → Bool) (reader : Reader (Unit {0})) (none : (p : ℕ) → reader [] p ≡ passed (record { what = tt; rest = []; at = p }))
    (some :
    (b : ℕ) (t : Text) (p : ℕ) →
    reader (b ∷ t) p ≡ cond (test b) (reader t (suc p)) (passed (record { what = tt; rest = b ∷ t; at = p })))
  where
    passes :
        (t : Text) (p q : ℕ) → p + prefix_len test t ≡ q →
        reader t p ≡ passed (record { what = tt; rest = drop (prefix_len test t) t; at = q })
    passes [] p q e = none p ∙ ap (λ (k : ℕ). passed (record { what = tt; rest = []; at = k })) (let z : p ≡ q = omega (arith, e) in z)
    passes (b ∷ t) p q e = some b t p ∙ go (test b) (passes t (suc p)) e
      where
        go :
            (x : Bool) →
            ((q : ℕ) → suc p + prefix_len test t ≡ q → reader t (suc p) ≡ passed (record { what = tt; rest = drop (prefix_len test t) t; at = q })) →
            p + cond x (1 + prefix_len test t) 0 ≡ q →
            cond x (reader t (suc p)) (passed (record { what = tt; rest = b ∷ t; at = p }))
            ≡ passed (record { what = tt; rest = drop (cond x (1 + prefix_len test t) 0) (b ∷ t); at = q })
        go true h e = let count : 1 + prefix_len test t ≡ suc (prefix_len test t) = omega arith in rw count (h q (omega (arith, e)))
        go false h e = ap (λ (k : ℕ). passed (record { what = tt; rest = b ∷ t; at = k })) (let z : p ≡ q = omega (arith, e) in z)

    module _ (old new : Cursor) (n : ℕ) (c : n ≡ prefix_len test old.rest.now) (r : new.rest.now ≡ drop n old.rest.now) where
      pub scans : new.at ≡ old.at + n → Reads reader old tt new
      scans e =
          let few = prefix_len-le-length test old.rest.now in
          record {
            moved = past old new n (omega (arith, c)) r e;
            reads = passes old.rest.now old.at (old.at + n) (omega (arith, c)) ∙ rw (sym c, sym r, sym e) refl;
          }

      -- the byte there does not meet the test
      pub scan_stops : (b : ℕ) → slice_get new.rest.now 0 ≡ Some b → test b ≡ false
      scan_stops b h =
          let t = old.rest.now in
          let first : slice_get (drop n t) 0 ≡ Some b = ap (λ (u : Text). slice_get u 0) (sym r) ∙ h in
          let within = slice_get_within (drop n t) 0 b first in
          let there : prefix_len test t < length t = omega (arith, length-drop n t, within, c) in
          let same : n + 0 ≡ prefix_len test t = omega (arith, c) in
          ap test
          (sym (get_or_from_slice_get (drop n t) 0 b 0 first) ∙ get_or-drop n t 0 0 ∙ rw same refl)
          ∙ prefix_len_stops test t 0 there

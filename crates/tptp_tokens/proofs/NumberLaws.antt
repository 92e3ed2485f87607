-- Laws for the reading of numbers: digits one after another, the first one, and the minus.
use Prim.Native.Nat.{ℕ, suc, ◌+◌, ◌*◌, ◌-◌, ◌≤◌, ◌<◌}
use native.Mathlib.Numerals.{add-one}
use native.Mathlib.Omega.{arith}
use mathlib.Core.Path.{◌≡◌, refl, sym, ap, fun_ext, ◌∙◌}
use mathlib.Core.Logic.{⊎_elim}
use mathlib.Core.Bool.{Bool, true, false, not, cond, ◌&&◌}
use mathlib.Core.List.{[], ◌∷◌}
use lib.Dec.{leb, eqb}
use lib.ListN.{length, drop, get_or}
use borrow.Author.Tests.{le-leb, lt-leb, eq-eqb, ne_eqb, leb-true, leb-false}
use Rattle.std.specs.Prelude.{slice_get, Some, None, Result, Ok, Err, pos, neg_ℤ, ◌⊎◌}
use Rattle.std.proofs.lemmas.Option.{slice_get_within}
use Rattle.text.specs.declared.cursor.Cursor.{Cursor}
use Rattle.laws.specs.Words.Tests.{decide, and_left}
use Rattle.model.specs.Bytes.{Text, digit, minus}
use Rattle.model.specs.Answer.{refused, passed}
use Rattle.model.specs.TptpReading.{give, ◌>>=◌, look, literal, more_digits, number, natural, integer}
use Rattle.model.specs.declared.Refusal.{Refusal}
use Rattle.model.specs.declared.Refusal.TheVariants.{Tptp}
use Rattle.tptp_tokens.specs.Steps.{from, Skips, Reads}
use Rattle.tptp_tokens.specs.Numbers.{More, digit-from, Numbers, Naturals, behind_minus, Magnitudes}
use Rattle.tptp_tokens.proofs.MovedLaws.{further, past}
use Rattle.tptp_tokens.proofs.TokenLaws.{here, over, begun, ended, onward, halt, look-here, look-over, literal-here}

-- one digit more; none behind a 0, and no number too great; no digit; the text's end
module _ (text : Text) (i most n p : ℕ) where
  abbrev raised : ℕ
  raised = 10 * n + (get_or text i 0 - 48)

  module _ (h : i < length text) where
    module _ (d : digit (get_or text i 0) ≡ true) where
      pub digits_more :
          1 ≤ n → raised ≤ most →
          more_digits most n (drop i text) (p + i) ≡ more_digits most raised (drop (i + 1) text) (p + (i + 1))
      unfolding more_digits
      digits_more z l =
          let next : suc (p + i) ≡ p + (i + 1) = omega arith in
          rw (here text i h, d, le-leb 1 n z, le-leb raised most l, next)

      pub digits_bad : (n ≡ 0) ⊎ (most < raised) → more_digits most n (drop i text) (p + i) ≡ refused Tptp (p + i)
      unfolding more_digits
      digits_bad =
          ⊎_elim
          (λ (z : n ≡ 0). rw (here text i h, d, lt-leb 1 n (omega arith)))
          (λ (l : most < raised). rw (here text i h, d, lt-leb raised most l) (only (leb 1 n)))
        where
          only : (b : Bool) → cond (b && false) (more_digits most raised (drop (i + 1) text) (suc (p + i))) (refused Tptp (p + i)) ≡ refused Tptp (p + i)
          only true = refl
          only false = refl

    pub digits-stop :
        digit (get_or text i 0) ≡ false → more_digits most n (drop i text) (p + i) ≡ passed (record { what = n; rest = drop i text; at = p + i })
    unfolding more_digits
    digits-stop d = rw (here text i h, d)

  pub digits_end :
      length text ≤ i → more_digits most n (drop i text) (p + i) ≡ passed (record { what = n; rest = drop i text; at = p + i })
  unfolding more_digits
  digits_end e = rw (over text i e)

-- the digits up to an index were passed
pub digits_done :
    (old kept new : Cursor) (i most first n : ℕ) → kept ≡ old → i ≤ length old.rest.now → new.rest.now ≡ drop i kept.rest.now →
    new.at ≡ kept.at + i →
    from (more_digits most first) old ≡ passed (record { what = n; rest = drop i old.rest.now; at = old.at + i }) →
    Reads (more_digits most first) old n new
digits_done old kept new i most first n k l r p e =
    let rest = r ∙ ap (λ (c : Cursor). drop i c.rest.now) k in
    let at = p ∙ ap (λ (c : Cursor). c.at + i) k in
    record { moved = past old new i l rest at; reads = e ∙ rw (sym rest, sym at) refl }

and_true : (b : Bool) → (b && true) ≡ b
and_true true = refl
and_true false = refl

and_false : (b : Bool) → (b && false) ≡ false
and_false true = refl
and_false false = refl

-- the first digit
module _ (old : Cursor) (least most : ℕ) where
  pub number-over : slice_get old.rest.now 0 ≡ None → from (number (digit-from least) most) old ≡ refused Tptp old.at
  unfolding number
  number-over h = rw (ended old.rest.now h)

  module _ (b : ℕ) (h : slice_get old.rest.now 0 ≡ Some b) where
    pub number-other : digit-from least b ≡ false → from (number (digit-from least) most) old ≡ refused Tptp old.at
    unfolding number
    number-other e = go old.rest.now h
      where
        go : (t : Text) → slice_get t 0 ≡ Some b → number (digit-from least) most t old.at ≡ refused Tptp old.at
        go t h = rw (begun t b h, e)

    module _ (mid : Cursor) (r : mid.rest.now ≡ drop 1 old.rest.now) (p : mid.at ≡ old.at + 1) (e : digit-from least b ≡ true) where
      start : from (number (digit-from least) most) old ≡ from (more_digits most (b - 48)) mid
      unfolding number
      start = go old.rest.now h ∙ rw (sym r, sym (add-one old.at), sym p) refl
        where
          go : (t : Text) → slice_get t 0 ≡ Some b → number (digit-from least) most t old.at ≡ more_digits most (b - 48) (drop 1 t) (suc old.at)
          go t h = rw (begun t b h, e)

      pub number-first :
          (new : Cursor) (found : Result ℕ Refusal) → 48 ≤ least → More most (b - 48) mid new found → Numbers least most old new found
      number-first new (Ok n) k m =
          let one = slice_get_within old.rest.now 0 b h in
          let moved = past old mid 1 (omega (arith, one)) r p in (
            record { moved = further old mid new moved m.0.moved; reads = start ∙ m.0.reads },
            omega (arith, p, m.0.moved.low),
            omega (arith, m.1, leb-true least b (and_left _ (leb b 57) e)),
            m.2,
          )
      number-first new (Err q) k m = start ∙ m

module _ (old new : Cursor) where
  -- from 0 on, and from 1 on
  pub natural-number : (found : Result ℕ Refusal) → Numbers 48 2147483647 old new found → Naturals old new found
  unfolding natural digit
  natural-number (Ok n) m = (m.0, m.1, m.3)
  natural-number (Err q) m = m

  -- tests that are alike where they are asked
  same_test : (f g : ℕ → Bool) (most : ℕ) → ((c : ℕ) → f c ≡ g c) → from (number f most) old ≡ from (number g most) old
  same_test f g most e = ap (λ (t : ℕ → Bool). from (number t most) old) (fun_ext e)

  from_one : (c : ℕ) → (digit c && not (eqb c 48)) ≡ digit-from 49 c
  unfolding digit
  from_one c =
      ⊎_elim
      (λ k.
      let low = leb-true 49 c k in
      rw (k, le-leb 48 c (omega arith), ne_eqb c 48 (λ z. omega arith)) (and_true (leb c 57)))
      (λ k.
      let high = leb-false 49 c k in
      rw k
      (⊎_elim
      (λ l.
      let low = leb-true 48 c l in
      rw (eq-eqb c 48 (omega arith)) (and_false (digit c)))
      (λ l. ap (λ (b : Bool). b && leb c 57 && not (eqb c 48)) l)
      (decide (leb 48 c))))
      (decide (leb 49 c))

  pub magnitude-number : (found : Result ℕ Refusal) → Numbers 49 2147483648 old new found → Magnitudes old new found
  magnitude-number (Ok n) m = (
    record { moved = m.0.moved; reads = same_test _ _ 2147483648 from_one ∙ m.0.reads },
    omega (arith, m.2),
    m.3,
  )
  magnitude-number (Err q) m = same_test _ _ 2147483648 from_one ∙ m

-- a number with a minus, and one without
module _ (old mid : Cursor) (s : Skips old mid) where
  module _ (h : slice_get mid.rest.now 0 ≡ Some 45) (sign : Cursor) (r : sign.rest.now ≡ drop 1 mid.rest.now) (p : sign.at ≡ mid.at + 1) where
    below : from integer old ≡ from (behind_minus >>= λ n. give (neg_ℤ (pos n))) sign
    unfolding integer
    below =
        onward look _ old 45 mid (look-here old mid s 45 h)
        ∙ onward (literal (minus ∷ [])) _ mid tt sign (literal-here mid sign r p 45 h).reads

    pub integer-below : (new : Cursor) (n : ℕ) → Reads behind_minus sign n new → Reads integer old (neg_ℤ (pos n)) new × (old.at < new.at)
    unfolding give
    integer-below new n m =
        let one = literal-here mid sign r p 45 h in (
          record {
            moved = further old sign new (further old mid sign s.reads.moved one.moved) m.moved;
            reads = below ∙ onward behind_minus (λ n. give (neg_ℤ (pos n))) sign n new m.reads;
          },
          omega (arith, s.reads.moved.low, p, m.moved.low),
        )

    pub integer_bad : (q : Refusal) (k : ℕ) → from behind_minus sign ≡ refused q k → from integer old ≡ refused q k
    integer_bad q k m = below ∙ halt behind_minus (λ n. give (neg_ℤ (pos n))) sign q k m

  module _ (e : slice_get mid.rest.now 0 ≡ Some 45 → ⊥) where
    above : from integer old ≡ from (natural >>= λ n. give (pos n)) mid
    unfolding integer natural number
    above = go mid.rest.now refl
      where
        go : (t : Text) → mid.rest.now ≡ t → from integer old ≡ from (natural >>= λ n. give (pos n)) mid
        go [] is =
            halt look _ old Tptp mid.at (look-over old mid s (ap (λ (u : Text). slice_get u 0) is))
            ∙ sym (halt natural (λ n. give (pos n)) mid Tptp mid.at (ap (λ (u : Text). natural u mid.at) is))
        go (b ∷ t) is =
            let first = ap (λ (u : Text). slice_get u 0) is in
            onward look _ old b mid (look-here old mid s b first) ∙ rw (ne_eqb b 45 (λ (k : b ≡ 45). e (first ∙ ap Some k))) refl

    pub integer-above : (new : Cursor) (n : ℕ) → Reads natural mid n new → mid.at < new.at → Reads integer old (pos n) new × (old.at < new.at)
    unfolding give
    integer-above new n m l = (
      record { moved = further old mid new s.reads.moved m.moved; reads = above ∙ onward natural (λ n. give (pos n)) mid n new m.reads },
      omega (arith, s.reads.moved.low, l),
    )

    pub integer-other : (q : Refusal) (k : ℕ) → from natural mid ≡ refused q k → from integer old ≡ refused q k
    integer-other q k m = above ∙ halt natural (λ n. give (pos n)) mid q k m

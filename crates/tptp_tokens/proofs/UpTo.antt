-- Laws for what is read one after another, each behind the same byte: what was read so far is attached to what comes of the rest.
use Prim.Native.Nat.{ℕ, suc, ◌+◌, ◌<◌}
use native.Mathlib.Omega.{arith}
use mathlib.Core.Path.{◌≡◌, refl, sym, ap, ◌∙◌}
use mathlib.Core.Logic.{⊎_elim}
use mathlib.Core.Bool.{Bool, true, false, cond}
use mathlib.Core.List.{List, [], ◌∷◌, ◌++◌, append_assoc, append-nil}
use lib.Dec.{eqb}
use lib.ListN.{drop}
use borrow.Author.Tests.{eq-eqb, ne_eqb}
use Rattle.std.specs.Prelude.{slice_get, Some, None}
use Rattle.text.specs.declared.cursor.Cursor.{Cursor}
use Rattle.laws.specs.Words.Tests.{decide}
use Rattle.model.specs.Bytes.{Text, blank}
use Rattle.model.specs.Answer.{Outcome, passed, refused}
use Rattle.model.specs.TptpReading.{Got, Reader, give, onwards, blanks, look, token, up_to, ◌>>=◌}
use Rattle.model.specs.declared.Refusal.{Refusal}
use Rattle.model.specs.declared.Refusal.TheVariants.{Tptp}
use Rattle.tptp_tokens.specs.Steps.{from, got, Skips, Reads}
use Rattle.tptp_tokens.specs.Several.{another}
use Rattle.tptp_tokens.proofs.MovedLaws.{still, further}
use Rattle.tptp_tokens.proofs.TokenLaws.{look-here, look-over, token-here}

-- no blank stands where another byte does
pub skips_here : (here : Cursor) → ((b : ℕ) → slice_get here.rest.now 0 ≡ Some b → blank b ≡ false) → Skips here here
unfolding blanks
skips_here here h = record { reads = record { moved = still here; reads = go here.rest.now h }; stop = h }
  where
    go :
        (t : Text) → ((b : ℕ) → slice_get t 0 ≡ Some b → blank b ≡ false) →
        blanks t here.at ≡ passed (record { what = tt; rest = t; at = here.at })
    go [] h = refl
    go (b ∷ t) h = rw (h b refl)

-- a byte there as a token
pub token-self :
    (old mid : Cursor) → Skips old mid → (new : Cursor) → new.rest.now ≡ drop 1 mid.rest.now → new.at ≡ mid.at + 1 →
    (c : ℕ) → slice_get mid.rest.now 0 ≡ Some c → Reads (token (c ∷ [])) mid tt new
token-self old mid s new r e c h = token-here mid mid (skips_here mid s.stop) new r e c h

-- whether the byte stands behind blanks
module _ (c : ℕ) (old mid : Cursor) (s : Skips old mid) where
  pub another-over : slice_get mid.rest.now 0 ≡ None → from (another c) old ≡ refused Tptp mid.at
  unfolding another ◌>>=◌ onwards
  another-over h = rw (look-over old mid s h)

  pub another-other : (b : ℕ) → slice_get mid.rest.now 0 ≡ Some b → (b ≡ c → ⊥) → Reads (another c) old false mid
  unfolding another give ◌>>=◌ onwards
  another-other b h n = record { moved = s.reads.moved; reads = rw (look-here old mid s b h, ne_eqb b c n) }

  pub another-here :
      (b : ℕ) → slice_get mid.rest.now 0 ≡ Some b → b ≡ c → (new : Cursor) (k : ℕ) → k ≡ 1 → new.rest.now ≡ drop k mid.rest.now →
      new.at ≡ mid.at + k → Reads (another c) old true new × (old.at < new.at)
  unfolding another give ◌>>=◌ onwards
  another-here b h is new k one r e =
      let h' = h ∙ ap (λ (d : ℕ). Some d) is in
      let r' = r ∙ ap (λ (n : ℕ). drop n mid.rest.now) one in
      let t = token-self old mid s new r' (omega (arith, e, one)) c h' in (
        record { moved = further old mid new s.reads.moved t.moved; reads = rw (look-here old mid s b h, eq-eqb b c is, t.reads) },
        omega (arith, s.reads.moved.low, e, one),
      )

-- behind the byte one thing is read, and without it another
pub if-another :
    {A : Type 0} (c : ℕ) (more end : Reader A) (t : Text) (p : ℕ) →
    (look >>= λ b. cond (eqb b c) (token (c ∷ []) >>= λ _. more) end) t p ≡ (another c >>= λ b. cond b more end) t p
unfolding another ◌>>=◌ onwards give
if-another c more end t p = go (look t p)
  where
    behind :
        (o : Outcome (Got (Unit {0}))) →
        onwards o (λ _. more) ≡ onwards (onwards o (λ _ t p. passed (record { what = true; rest = t; at = p }))) (λ b. cond b more end)
    behind (refused q k) = refl
    behind (passed g) = refl

    go :
        (o : Outcome (Got ℕ)) →
        onwards o (λ b. cond (eqb b c) (token (c ∷ []) >>= λ _. more) end)
        ≡ onwards (onwards o (λ b. cond (eqb b c) (token (c ∷ []) >>= λ _. give true) (give false))) (λ b. cond b more end)
    go (refused q k) = refl
    go (passed g) =
        ⊎_elim (λ e. rw e (behind (token (c ∷ []) g.rest g.at))) (λ e. rw e) (decide (eqb g.what c))

module _ {A : Type 0} where
  unfoldable pub attach : List A → Outcome (Got (List A)) → Outcome (Got (List A))
  attach xs (refused q p) = refused q p
  attach xs (passed g) = passed (record { what = xs ++ g.what; rest = g.rest; at = g.at })

  pub attach-none : (o : Outcome (Got (List A))) → attach [] o ≡ o
  unfolding attach
  attach-none (refused q p) = refl
  attach-none (passed g) = refl

  pub attach-attach : (xs ys : List A) (o : Outcome (Got (List A))) → attach xs (attach ys o) ≡ attach (xs ++ ys) o
  unfolding attach
  attach-attach xs ys (refused q p) = refl
  attach-attach xs ys (passed g) =
      ap (λ (zs : List A). passed (record { what = zs; rest = g.rest; at = g.at })) (sym (append_assoc xs ys g.what))

  pub attach-give : (x : A) (o : Outcome (Got (List A))) → onwards o (λ xs. give (x ∷ xs)) ≡ attach (x ∷ []) o
  unfolding onwards give attach
  attach-give x (refused q p) = refl
  attach-give x (passed g) = refl

  pub attach-all : (xs : List A) (here : Cursor) → attach xs (got [] here) ≡ got xs here
  unfolding attach
  attach-all xs here = ap (λ (ys : List A). got ys here) (append-nil xs)

-- so many were read so far, and m more may follow
module _ {A : Type 0} (one : Reader A) (c : ℕ) {whole : Outcome (Got (List A))} (xs : List A) (here : Cursor) where
  pub several_all : (m : ℕ) → m ≡ 0 → whole ≡ attach xs (from (up_to m c one) here) → whole ≡ got xs here
  unfolding up_to give
  several_all m e goes = goes ∙ rw e (attach-all xs here)

  module _ (n m : ℕ) (e : m ≡ suc n) (goes : whole ≡ attach xs (from (up_to m c one) here)) where
    next : whole ≡ attach xs (from (another c >>= λ b. cond b (one >>= λ x. up_to n c one >>= λ xs. give (x ∷ xs)) (give [])) here)
    unfolding up_to
    next = goes ∙ rw e (ap (attach xs) (if-another c (one >>= λ x. up_to n c one >>= λ xs. give (x ∷ xs)) (give []) here.rest.now here.at))

    pub several_refused : (q : Refusal) (p : ℕ) → from (another c) here ≡ refused q p → whole ≡ refused q p
    unfolding ◌>>=◌ onwards attach
    several_refused q p a = next ∙ rw a

    pub several_stop : (b : Bool) → b ≡ false → (end : Cursor) → from (another c) here ≡ got b end → whole ≡ got xs end
    unfolding ◌>>=◌ onwards give
    several_stop b e end a = next ∙ rw (a, e) (attach-all xs end)

    module _ (b : Bool) (y : b ≡ true) (mid : Cursor) (a : from (another c) here ≡ got b mid) where
      pub several_none : (q : Refusal) (p : ℕ) → from one mid ≡ refused q p → whole ≡ refused q p
      unfolding ◌>>=◌ onwards attach
      several_none q p r = next ∙ rw (a, y, r)

      pub several_more : (x : A) (end : Cursor) → from one mid ≡ got x end → whole ≡ attach (xs ++ x ∷ []) (from (up_to n c one) end)
      unfolding ◌>>=◌ onwards
      several_more x end r =
          next
          ∙ rw (a, y, r) (ap (attach xs) (attach-give x (from (up_to n c one) end)) ∙ attach-attach xs (x ∷ []) (from (up_to n c one) end))

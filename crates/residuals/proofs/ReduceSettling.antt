-- Questions 11 and 12: what the walk answered, as what comes of them.
use Prim.Native.Nat.{ℕ, ◌-◌, ◌≤◌, ◌<◌}
use native.Mathlib.Omega.{arith}
use mathlib.Core.Path.{◌≡◌, refl, sym, ap, ◌∙◌, subst}
use mathlib.Core.Bool.{Bool, true, false, cond, ◌&&◌}
use mathlib.Core.List.{[], ◌∷◌, ◌++◌}
use lib.ListN.{length, take, set}
use lib.IntN.{ℤ, pos}
use lib.Dec.{leb, ltb}
use borrow.Author.Tests.{leb-true, le-leb, lt-leb, ltb-true, ltb-false}
use Rattle.std.specs.Prelude.{Ok, Err}
use Rattle.model.specs.declared.Refusal.{Refusal}
use Rattle.model.specs.declared.Refusal.TheVariants.{Scratch, Room}
use Rattle.model.specs.Words.{Words, policy_limit}
use Rattle.model.specs.Answer.{Answer, Outcome, passed, refused, ask, answer, count, ◌>>=◌, refused_at}
use Rattle.model.specs.Tree.{Tree, plain, encode}
use Rattle.model.specs.Calls.{zeros, filled, write}
use Rattle.joining.specs.declared.answer.Reduced.TheVariants.{Short, Plain, Long, Part}
use Rattle.joining.proofs.Telling.{told-short, told-plain, told-long, told_part}
use Rattle.residuals.specs.Residual.{settled, Leaves, lendable, Walked}

module _ (room : ℕ) (after : Words) where
  -- a refusal counts no word
  pub leaves-refused : {o : Outcome Words} {r : Refusal} {p : ℕ} → o ≡ refused r p → Leaves o room after (Err (refused_at r p))
  unfolding answer count filled
  leaves-refused e = rw e record { answered = refl; fits = omega arith; wrote = ap zeros (omega arith) }

  pub leaves-written :
      {o : Outcome Words} {ws : Words} {n : ℕ} →
      o ≡ passed ws →
      n ≡ length ws →
      n ≤ room →
      take n after ≡ ws →
      Leaves o room after (Ok n)
  unfolding answer count filled
  leaves-written {o} {ws} {n} e k h w =
      rw e record {
        answered = ap Ok k;
        fits = h;
        wrote = ap (λ (l : Words). l ++ zeros (room - n)) w ∙ ap (λ (m : ℕ). ws ++ zeros (room - m)) k;
      }

-- question 12
module _ (room : ℕ) (t : Tree) where
  pub write-passed : length (encode t) ≤ lendable room → write room t ≡ passed (encode t)
  unfolding write ask ◌>>=◌
  write-passed h = rw (le-leb (length (encode t)) room (omega arith), le-leb (length (encode t)) policy_limit (omega arith)) refl

  and-not : (a b : Bool) → (a ≡ true → b ≡ false) → (a && b) ≡ false
  and-not true b f = f refl
  and-not false b f = refl

  pub write-refused : lendable room < length (encode t) → write room t ≡ refused Room 0
  unfolding write ask ◌>>=◌
  write-refused h =
      let few : leb (length (encode t)) room ≡ true → leb (length (encode t)) policy_limit ≡ false
      = λ e. lt-leb (length (encode t)) policy_limit (omega (arith, leb-true (length (encode t)) room e)) in
      rw (and-not (leb (length (encode t)) room) (leb (length (encode t)) policy_limit) few) refl

-- a plain residual has one word
module _ (value : Bool) (out : Words) where
  pub plain-no-room : length out < 1 → Leaves (write (length out) (plain value)) (length out) out (Err (refused_at Room 0))
  unfolding encode
  plain-no-room h = leaves-refused (length out) out (write-refused (length out) (plain value) (omega arith))

  pub plain-written :
      (z : ℤ) (n : ℕ) →
      z ≡ pos (cond value 1 0) →
      n ≡ 1 →
      1 ≤ length out →
      Leaves (write (length out) (plain value)) (length out) (set out 0 z) (Ok n)
  unfolding encode
  plain-written z n e k h =
      rw k
      (leaves-written (length out) (set out 0 z) (write-passed (length out) (plain value) (omega (arith, h))) refl h
      (first out h ∙ ap (λ (w : ℤ). w ∷ []) e))
    where
      first : (l : Words) → 1 ≤ length l → take 1 (set l 0 z) ≡ z ∷ []
      first [] k = absurd (omega (arith, k))
      first (x ∷ xs) k = refl

-- question 11, from the places that the walk was lent
module _ (places need : ℕ) (t : Tree) (out : Words) where
  enough : ltb places need ≡ false → settled places need (length out) t ≡ write (length out) t
  unfolding settled ask ◌>>=◌
  enough e = rw (le-leb need places (ltb-false _ _ e)) refl

  pub settle-short : Walked places need t out Short → Leaves (settled places need (length out) t) (length out) out (Err (refused_at Scratch 0))
  unfolding settled ask ◌>>=◌
  settle-short w =
      let no : leb need places ≡ false = lt-leb need places (ltb-true _ _ (told-short places need (lendable (length out)) t w.is)) in
      leaves-refused (length out) out (rw no refl)

  pub settle-plain :
      (value : Bool) (after : Words) (r : Answer) →
      Walked places need t out (Plain value) →
      Leaves (write (length out) (plain value)) (length out) after r →
      Leaves (settled places need (length out) t) (length out) after r
  settle-plain value after r w l =
      let (some, is) = told-plain places need (lendable (length out)) t value w.is in
      subst (λ (o : Outcome Words). Leaves o (length out) after r) (sym (enough some ∙ ap (write (length out)) is)) l

  pub settle-long : Walked places need t out Long → Leaves (settled places need (length out) t) (length out) out (Err (refused_at Room 0))
  settle-long w =
      let (some, more) = told-long places need (lendable (length out)) t w.is in
      leaves-refused (length out) out (enough some ∙ write-refused (length out) t more.1)

  pub settle-part : (n : ℕ) → Walked places need t out (Part n) → Leaves (settled places need (length out) t) (length out) out (Ok n)
  settle-part n w =
      let (some, more) = told_part places need (lendable (length out)) t n w.is in
      leaves-written (length out) out (enough some ∙ write-passed (length out) t (omega (arith, more.1, more.2))) more.1 (omega (arith, more.2)) (w.words n refl)

-- Laws of words laid over others, and a buffer that is filled so part by part.
use Prim.Native.Nat.{ℕ, ◌+◌, ◌-◌, ◌≤◌, ◌<◌}
use native.Mathlib.Omega.{arith}
use native.Mathlib.Numerals.{add-one}
use mathlib.Core.Path.{◌≡◌, refl, sym, ap, ap₂, ◌∙◌}
use mathlib.Core.List.{[], ◌∷◌, ◌++◌, append_assoc, append-nil}
use lib.ListN.{length, take, drop, set, length-append, length-drop}
use lib.Seq.{paste, take_at, drop_at, drop-drop, take-length, length-take-le, length-paste, paste-zero, append_snoc, set_split}
use borrow.Rule.Slice.PartMut.{put_mid}
use lib.IntN.{ℤ}
use Rattle.model.specs.Words.{Words}
use Rattle.std.specs.List.{copy_within}
use Rattle.words.specs.Laying.{laid}

-- the length stays
pub laid-long : (old : Words) (to : ℕ) (part : Words) → to + length part ≤ length old → length (laid old to part) ≡ length old
unfolding laid
laid-long old to part h = rw take-length at (length-paste old to part (length part) h (omega arith))

-- no part changes nothing
pub laid_none : (old : Words) (to : ℕ) → laid old to [] ≡ old
unfolding laid
laid_none old to = sym (paste-zero old to [])

-- at the front
pub laid-front : (old part : Words) → laid old 0 part ≡ part ++ drop (length part) old
unfolding laid
laid-front old part =
    let e : 0 + length part ≡ length part = omega arith in
    ap (λ (n : ℕ). part ++ drop n old) e

-- one part behind another
pub laid-laid :
    (old : Words) (to : ℕ) (a b : Words) →
    to + length a + length b ≤ length old →
    laid (laid old to a) (to + length a) b ≡ laid old to (a ++ b)
unfolding laid
laid-laid old to a b h =
    let front = take to old ++ a in
    let n = to + length a in
    let m = length b in
    let long : length front ≡ n = length-append (take to old) a ∙ ap (λ (k : ℕ). k + length a) (length-take-le to old (omega arith)) in
    let behind : drop (n + m) (front ++ drop n old) ≡ drop (n + m) old
    = sym (drop-drop m n (front ++ drop n old)) ∙ ap (drop m) (drop_at front (drop n old) n long) ∙ drop-drop m n old in
    let both : to + length (a ++ b) ≡ n + m = omega (arith, length-append a b) in
    ap₂ (λ (l r : Words). l ++ b ++ r) (take_at front (drop n old) n long) behind
    ∙ ap₂ (λ (l : Words) (k : ℕ). l ++ drop k old) (append_assoc (take to old) a b) (sym both)

-- a range of the old words written over: as the part of a slice, and by others of the old words
pub laid-part : (old : Words) (to k : ℕ) (part : Words) → k ≡ length part → put_mid to k old part ≡ laid old to part
unfolding laid
laid-part old to k part e =
    ap (λ (l : Words). take to old ++ (part ++ l)) (drop-drop k to old)
    ∙ sym (append_assoc (take to old) part (drop (to + k) old))
    ∙ ap (λ (n : ℕ). take to old ++ part ++ drop (to + n) old) e

pub laid-copied :
    (old : Words) (from end n to : ℕ) → end ≡ from + n → end ≤ length old → copy_within old from end to ≡ laid old to (take n (drop from old))
unfolding laid
laid-copied old from end n to e h =
    let k : end - from ≡ n = omega arith in
    let long : length (take n (drop from old)) ≡ n = length-take-le n (drop from old) (omega (arith, length-drop from old)) in
    ap (paste old to (drop from old)) k ∙ ap (λ (m : ℕ). take to old ++ take n (drop from old) ++ drop (to + m) old) (sym long)

-- a word stored
pub laid_word : (old : Words) (i : ℕ) (z : ℤ) → i < length old → set old i z ≡ laid old i (z ∷ [])
unfolding laid
laid_word old i z h =
    set_split old i z h ∙ sym (append_snoc (take i old) z _) ∙ ap (λ (n : ℕ). take i old ++ (z ∷ []) ++ drop n old) (sym (add-one i))

-- two words stored
pub laid-two :
    (old : Words) (i j : ℕ) (x y : ℤ) → j ≡ i + 1 → i + 2 ≤ length old → set (set old i x) j y ≡ laid old i (x ∷ y ∷ [])
laid-two old i j x y e h =
    let long = laid-long old i (x ∷ []) (omega arith) in
    ap (λ (l : Words). set l j y) (laid_word old i x (omega arith))
    ∙ ap (λ (k : ℕ). set (laid old i (x ∷ [])) k y) e
    ∙ laid_word (laid old i (x ∷ [])) (i + 1) y (omega (arith, long))
    ∙ laid-laid old i (x ∷ []) (y ∷ []) (omega arith)

-- of a whole that is laid over old words, the rest is still to come behind k words
pub record Filled (old : Words) (to : ℕ) (whole rest : Words) (k : ℕ) (buffer : Words) : Type 0 where
  pub done : Words
  pub is : buffer ≡ laid old to done
  pub reached : length done ≡ k
  pub parts : whole ≡ done ++ rest
  pub room : to + length whole ≤ length old

pub fill_start : (old : Words) (to : ℕ) (whole : Words) → to + length whole ≤ length old → Filled old to whole whole 0 old
fill_start old to whole h = record { done = []; is = sym (laid_none old to); reached = refl; parts = refl; room = h }

module _ (old : Words) (to : ℕ) (whole rest : Words) (k : ℕ) (buffer : Words) (f : Filled old to whole rest k buffer) where
  pub fill-room : to + k + length rest ≤ length old
  fill-room = omega (arith, f.room, f.reached, ap length f.parts, length-append f.done rest)

  pub fill-long : length buffer ≡ length old
  fill-long = ap length f.is ∙ laid-long old to f.done (omega (arith, fill-room, f.reached))

  -- the next part
  pub fill_more :
      (part left : Words) →
      rest ≡ part ++ left →
      (i j : ℕ) (after : Words) →
      i ≡ to + k →
      j ≡ k + length part →
      after ≡ laid buffer i part →
      Filled old to whole left j after
  fill_more part left e i j after p q s =
      let here : to + length f.done ≡ i = omega (arith, f.reached) in
      record {
        done = f.done ++ part;
        is =
            s
            ∙ ap₂ (λ (l : Words) (n : ℕ). laid l n part) f.is (sym here)
            ∙ laid-laid old to f.done part (omega (arith, fill-room, f.reached, ap length e, length-append part left));
        reached = omega (arith, f.reached, length-append f.done part);
        parts = f.parts ∙ ap (λ (l : Words). f.done ++ l) e ∙ sym (append_assoc f.done part left);
        room = f.room;
      }

-- nothing is left
pub fill_end :
    (old : Words) (to : ℕ) (whole rest : Words) (k : ℕ) (buffer : Words) → Filled old to whole rest k buffer → rest ≡ [] → buffer ≡ laid old to whole
fill_end old to whole rest k buffer f e =
    f.is ∙ ap (laid old to) (sym (f.parts ∙ ap (λ (l : Words). f.done ++ l) e ∙ append-nil f.done))

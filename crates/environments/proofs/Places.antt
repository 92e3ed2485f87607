-- Laws of environments and of their places: a place has the numbers and the marks of the first sixteen variables and no more.
use Prim.Native.Nat.{ℕ, zero, suc, ◌+◌, ◌*◌, ◌^◌, ◌≤◌, ◌<◌, ◌/◌, ◌%◌}
use native.Mathlib.Omega.{arith}
use native.Mathlib.Nat.{add-zero, zero-add, add-suc, suc-add, pow-succ'}
use mathlib.Core.Path.{◌≡◌, refl, sym, ap, ap₂, ◌∙◌}
use mathlib.Core.Logic.{⊎_elim}
use mathlib.Core.Bool.{Bool, true, false, cond}
use mathlib.Core.List.{List, [], ◌∷◌, ◌++◌, map, append_assoc}
use lib.ListN.{length, get_or, set, take, drop, length-append, length-set, length-map, get_or-append}
use lib.Seq.{paste, get_or_at, get_or-set_same, get_or-set_other, get_or-take, get_or-drop, ext_get_or, take_at, drop_at, take-take, take_all}
use lib.Seq.{length-take-le, drop-cons, set_at}
use lib.Pow.{pow_mono}
use lib.Dec.{eqb}
use lib.IntN.{ℤ, pos, nat_abs}
use borrow.Author.Tests.{eq-eqb, ne_eqb}
use Rattle.model.specs.Words.{Words, word, value, scope_limit}
use Rattle.model.specs.Lists.{span}
use Rattle.model.specs.Listing.{Slot, bound, free, Environment, bind, release, number_in}
use Rattle.laws.specs.Lists.Span.{length-span, span_mem, map_same}
use Rattle.laws.specs.Listing.Fitting.{bind-same, bind-other, release-same, release_other, same_or_not}
use Rattle.environments.specs.declared.environment.Environment.{Environment as Held}
use Rattle.environments.specs.Environment.{is_bound, numbers_of, marks_of, bits, place_of, place_at, stored, unbits, Holds}

-- the environment that the words of a place stand for
unfoldable pub environment_at : Words → Environment
environment_at ws x = cond (get_or (unbits scope_limit (value ws scope_limit)) x false) (bound (word ws x)) free

module _ {A : Type 0} where
  -- what f makes of a span: how many, and which at an index
  pub made-length : (f : ℕ → A) (i n : ℕ) → length (map f (span i n)) ≡ n
  made-length f i n = length-map (span i n) f ∙ length-span i n

  made-from : (f : ℕ → A) (i n x : ℕ) (d : A) → x < n → get_or (map f (span i n)) x d ≡ f (i + x)
  unfolding span
  made-from f i zero x d h = absurd (omega arith)
  made-from f i (suc n) zero d h = ap f (sym (add-zero i))
  made-from f i (suc n) (suc x) d h = made-from f (suc i) n x d (omega arith) ∙ ap f (suc-add i x ∙ sym (add-suc i x))

  pub made_at : (f : ℕ → A) (n x : ℕ) (d : A) → x < n → get_or (map f (span 0 n)) x d ≡ f x
  made_at f n x d h = made-from f 0 n x d h ∙ ap f (zero-add x)

  -- two functions that are equal below n make the same
  made-same : (f g : ℕ → A) (n : ℕ) → ((x : ℕ) → x < n → f x ≡ g x) → map f (span 0 n) ≡ map g (span 0 n)
  made-same f g n e = map_same f g (span 0 n) (λ x m. e x (let h = span_mem 0 n m in omega arith))

  -- one of them is changed
  made-set : (f g : ℕ → A) (n x : ℕ) (v : A) → g x ≡ v → ((y : ℕ) → (y ≡ x → ⊥) → g y ≡ f y) → set (map f (span 0 n)) x v ≡ map g (span 0 n)
  made-set f g n x v e other =
      let long : length (set (map f (span 0 n)) x v) ≡ n = length-set (map f (span 0 n)) x v ∙ made-length f 0 n in
      ext_get_or v _ _ (long ∙ sym (made-length g 0 n)) (λ y h.
      let l : y < n = omega arith in
      ⊎_elim
      (λ q.
      ap (λ (k : ℕ). get_or (set (map f (span 0 n)) x v) k v) q
      ∙ get_or-set_same (map f (span 0 n)) x v v (omega (arith, q, made-length f 0 n))
      ∙ sym (made_at g n y v l ∙ ap g q ∙ e))
      (λ q. get_or-set_other (map f (span 0 n)) x y v v q ∙ made_at f n y v l ∙ sym (made_at g n y v l ∙ other y q))
      (same_or_not y x))

-- an environment has sixteen numbers and sixteen marks, one for each variable
module _ (e : Environment) where
  pub numbers-length : length (numbers_of e) ≡ 16
  unfolding numbers_of
  numbers-length = made-length (λ x. number_in (e x)) 0 16

  pub marks-length : length (marks_of e) ≡ 16
  unfolding marks_of
  marks-length = made-length (λ x. is_bound (e x)) 0 16

  pub number_at : (x : ℕ) → x < 16 → get_or (numbers_of e) x (pos 0) ≡ number_in (e x)
  unfolding numbers_of
  number_at x h = made_at (λ x. number_in (e x)) 16 x (pos 0) h

  pub mark-at : (x : ℕ) → x < 16 → get_or (marks_of e) x false ≡ is_bound (e x)
  unfolding marks_of
  mark-at x h = made_at (λ x. is_bound (e x)) 16 x false h

  -- a variable more, and one dropped
  pub numbers-bind : (x : ℕ) (k : ℤ) → set (numbers_of e) x k ≡ numbers_of (bind e x k)
  unfolding numbers_of number_in
  numbers-bind x k = made-set (λ y. number_in (e y)) (λ y. number_in (bind e x k y)) 16 x k (ap number_in (bind-same e x k)) (λ y n. ap number_in (bind-other e x k y n))

  pub marks-bind : (x : ℕ) (k : ℤ) → set (marks_of e) x true ≡ marks_of (bind e x k)
  unfolding marks_of is_bound
  marks-bind x k = made-set (λ y. is_bound (e y)) (λ y. is_bound (bind e x k y)) 16 x true (ap is_bound (bind-same e x k)) (λ y n. ap is_bound (bind-other e x k y n))

  pub numbers-release : (x : ℕ) → set (numbers_of e) x (pos 0) ≡ numbers_of (release e x)
  unfolding numbers_of number_in
  numbers-release x = made-set (λ y. number_in (e y)) (λ y. number_in (release e x y)) 16 x (pos 0) (ap number_in (release-same e x)) (λ y n. ap number_in (release_other e x y n))

  pub marks-release : (x : ℕ) → set (marks_of e) x false ≡ marks_of (release e x)
  unfolding marks_of is_bound
  marks-release x = made-set (λ y. is_bound (e y)) (λ y. is_bound (release e x y)) 16 x false (ap is_bound (release-same e x)) (λ y n. ap is_bound (release_other e x y n))

-- what the code's environment has for a variable
module _ {held : Held} {e : Environment} (h : Holds held e) (x : ℕ) (l : x < 16) where
  pub held_number : get_or held.numbers x (pos 0) ≡ number_in (e x)
  held_number = ap (λ (ns : List ℤ). get_or ns x (pos 0)) h.numbers ∙ number_at e x l

  pub held-mark : get_or held.marks x false ≡ is_bound (e x)
  held-mark = ap (λ (bs : List Bool). get_or bs x false) h.marks ∙ mark-at e x l

-- with one variable more bound
pub held-bind :
    {held : Held} {e : Environment} →
    Holds held e →
    (x : ℕ) (k : ℤ) →
    Holds (record { numbers = set held.numbers x k; marks = set held.marks x true }) (bind e x k)
held-bind {e = e} h x k =
    record {
      numbers = ap (λ (l : List ℤ). set l x k) h.numbers ∙ numbers-bind e x k;
      marks = ap (λ (l : List Bool). set l x true) h.marks ∙ marks-bind e x k;
    }

-- a slot is known by its mark and its number
slot_back : (s : Slot) → cond (is_bound s) (bound (number_in s)) free ≡ s
unfolding is_bound number_in
slot_back (bound k) = refl
slot_back free = refl

-- marks as bits: a small number, and back
pub bits_below : (bs : List Bool) → bits bs < 2 ^ length bs
unfolding bits
bits_below [] = omega arith
bits_below (true ∷ bs) = let h = bits_below bs in rw (pow-succ' 2 (length bs)) (omega arith)
bits_below (false ∷ bs) = let h = bits_below bs in rw (pow-succ' 2 (length bs)) (omega arith)

pub bits_small : (bs : List Bool) → length bs ≤ 16 → bits bs < 65536
bits_small bs h = let b = bits_below bs in let p : 2 ^ length bs ≤ 2 ^ 16 = pow_mono h in omega arith

pub bits_back : (bs : List Bool) → unbits (length bs) (bits bs) ≡ bs
unfolding bits unbits
bits_back [] = refl
bits_back (b ∷ bs) = ap₂ (λ (c : Bool) (n : ℕ). c ∷ unbits (length bs) n) (low b) (high b) ∙ ap (λ (l : List Bool). b ∷ l) (bits_back bs)
  where
    low : (b : Bool) → eqb ((cond b 1 0 + 2 * bits bs) % 2) 1 ≡ b
    low true = eq-eqb ((1 + 2 * bits bs) % 2) 1 (omega arith)
    low false = ne_eqb ((0 + 2 * bits bs) % 2) 1 (λ q. omega arith)

    high : (b : Bool) → (cond b 1 0 + 2 * bits bs) / 2 ≡ bits bs
    high true = omega arith
    high false = omega arith

-- a place has seventeen words: the numbers, and the marks
module _ (e : Environment) where
  pub place-length : length (place_of e) ≡ 17
  unfolding place_of
  place-length = length-append (numbers_of e) _ ∙ ap (λ (n : ℕ). n + 1) (numbers-length e)

  pub place-number : (x : ℕ) → x < 16 → word (place_of e) x ≡ number_in (e x)
  unfolding place_of word
  place-number x h = get_or-append (numbers_of e) _ (pos 0) x (omega (arith, numbers-length e)) ∙ number_at e x h

  pub place-bits : word (place_of e) 16 ≡ pos (bits (marks_of e))
  unfolding place_of word
  place-bits = get_or_at (numbers_of e) _ [] (pos 0) 16 (numbers-length e)

  pub place-marks : unbits 16 (value (place_of e) 16) ≡ marks_of e
  unfolding value
  place-marks =
      ap (λ (z : ℤ). unbits 16 (nat_abs z)) place-bits
      ∙ ap (λ (n : ℕ). unbits n (bits (marks_of e))) (sym (marks-length e))
      ∙ bits_back (marks_of e)

  -- they stand for that environment, as far as its first sixteen variables go
  pub place_back : (x : ℕ) → x < 16 → environment_at (place_of e) x ≡ e x
  unfolding environment_at
  place_back x h =
      ap₂ (λ (b : Bool) (k : ℤ). cond b (bound k) free) (ap (λ (bs : List Bool). get_or bs x false) place-marks ∙ mark-at e x h) (place-number x h)
      ∙ slot_back (e x)

-- two environments have the same words exactly if they agree there
pub same_place : (e f : Environment) → ((x : ℕ) → x < 16 → e x ≡ f x) → place_of e ≡ place_of f
unfolding place_of numbers_of marks_of
same_place e f h =
    ap₂ (λ (ns : List ℤ) (bs : List Bool). ns ++ pos (bits bs) ∷ [])
    (made-same (λ x. number_in (e x)) (λ x. number_in (f x)) 16 (λ x l. ap number_in (h x l)))
    (made-same (λ x. is_bound (e x)) (λ x. is_bound (f x)) 16 (λ x l. ap is_bound (h x l)))

pub place_same : (e f : Environment) → place_of e ≡ place_of f → (x : ℕ) → x < 16 → e x ≡ f x
place_same e f q x h = sym (place_back e x h) ∙ ap (λ (ws : Words). environment_at ws x) q ∙ place_back f x h

-- the words of a part of scratch that are a place
module _ (scratch : Words) (at : ℕ) (e : Environment) (here : take 17 (drop at scratch) ≡ place_of e) where
  pub numbers-here : take 16 (drop at scratch) ≡ numbers_of e
  unfolding place_of
  numbers-here = sym (take-take 16 17 (drop at scratch) (omega arith)) ∙ ap (take 16) here ∙ take_at (numbers_of e) _ 16 (numbers-length e)

  pub marks-here : unbits 16 (value scratch (at + 16)) ≡ marks_of e
  unfolding value word
  marks-here =
      ap (λ (z : ℤ). unbits 16 (nat_abs z))
      (sym (get_or-take 17 (drop at scratch) 16 (pos 0) (omega arith) ∙ get_or-drop at scratch 16 (pos 0)) ∙ ap (λ (ws : Words). get_or ws 16 (pos 0)) here)
      ∙ place-marks e

-- an environment stored in a place of scratch: it stands there, and the other places keep their words
module _ (scratch : Words) (place : ℕ) (e : Environment) (room : 17 * place + 17 ≤ length scratch) where
  front_length : length (take (17 * place) scratch) ≡ 17 * place
  front_length = length-take-le (17 * place) scratch (omega arith)

  pub stored_here : place_at (stored scratch place e) place ≡ place_of e
  stored_here = ap (take 17) (drop_at (take (17 * place) scratch) _ (17 * place) front_length) ∙ take_at (place_of e) _ 17 (place-length e)

-- numbers and the marks in one word, stored in scratch one behind another
pub place-stored :
    (scratch numbers : Words) (at : ℕ) (w : ℤ) →
    at + 17 ≤ length scratch →
    length numbers ≡ 16 →
    set (paste scratch at numbers 16) (at + 16) w ≡ take at scratch ++ ((numbers ++ w ∷ []) ++ drop (at + 17) scratch)
place-stored scratch numbers at w h l =
    let front = take at scratch ++ numbers in
    let long : length front ≡ at + 16 = simp (length-append, length-take-le at scratch (omega arith)) (omega arith) in
    let next : suc (at + 16) ≡ at + 17 = omega arith in
    ap (λ (p : Words). set (take at scratch ++ p ++ drop (at + 16) scratch) (at + 16) w) (take_all 16 numbers (omega arith))
    ∙ ap (λ (p : Words). set (front ++ p) (at + 16) w) (drop-cons scratch (at + 16) (pos 0) (omega arith))
    ∙ set_at front _ (drop (suc (at + 16)) scratch) w (at + 16) long
    ∙ ap (λ (n : ℕ). front ++ w ∷ drop n scratch) next
    ∙ append_assoc (take at scratch) numbers (w ∷ drop (at + 17) scratch)
    ∙ ap (λ (p : Words). take at scratch ++ p) (sym (append_assoc numbers (w ∷ []) (drop (at + 17) scratch)))

-- Facts about a log that questions 8, 9 and 10 accept, and about its front parts.
-- Two rows with one atom are one row, since unused arguments are 0; so the value of an atom is that of any row that holds it.
use Rattle.std.specs.Prelude.{ℕ, zero, suc, ◌+◌, ◌*◌, ◌-◌, ◌%◌, ◌≤◌, ◌<◌, min, ◌≡◌, refl, ◌⊎◌, Bool, true, false, not, cond, ◌&&◌, length, take, drop, replicate, leb, eqb, ℤ, pos, nat_abs}
use Rattle.std.proofs.Common.{arith, sym, ap, ap₂, ◌∙◌, subst, inl, inr, ⊎_elim, length-take, length-drop, length-append, take-append-drop, take-take, take_all, take_at, length-take-le, eqb-true, eq-eqb, leb-true, le-leb}
use mathlib.Core.List.Memᴰ
use mathlib.Core.List.{List, [], ◌∷◌, ◌++◌, map, Memᴰ}
use Rattle.std.proofs.lemmas.List.{length-replicate}
use Rattle.std.proofs.lemmas.Bool.{not-true}
use Rattle.model.specs.Words.{Words, word, value, within, below, equal, row_limit}
use Rattle.model.specs.Lists.{span, all, any}
use Rattle.model.specs.Answer.{Outcome, passed, ask, ◌>>=◌, in_turn}
use Rattle.model.specs.Table.{predicates, arity, complete}
use Rattle.model.specs.Log.{row_count, row_at, rows, front, arguments, says_true, good_row, same_atom, ask_log, Value, known, unknown, holds}
use Rattle.model.specs.Log.{value_in}
use Rattle.model.specs.Truth.{Extends}
use Rattle.model.specs.declared.Refusal.TheVariants.{LogLength, Row, Repeat}
use Rattle.laws.specs.Words.Tests.{decide, clash, and_left, and_right, and-true, equal-true, equal-refl, equal_all-true, equal_all-refl}
use Rattle.laws.specs.Lists.Membership.{map_mem}
use Rattle.laws.specs.Answer.{ask-passed, ask-true, then_passed, pass_then, in_turn_mem, in_turn_intro}
use Rattle.laws.specs.Lists.Span.{order, span_mem, mem_span, take-span, drop-take, any_none, none_any, map_same, take-map}

-- rows that hold the same atom say the same of it, and a row has six arguments
pub record Sound (table : Words) (rows : List Words) : Type 0 where
  pub agree :
      (r₁ r₂ : Words) →
      Memᴰ r₁ rows →
      Memᴰ r₂ rows →
      (p : ℕ) (ns : List ℤ) →
      length ns ≡ arity table p →
      holds p ns r₁ ≡ true →
      holds p ns r₂ ≡ true →
      says_true r₁ ≡ says_true r₂
  pub six : (r : Words) → Memᴰ r rows → length (arguments r) ≡ 6

-- lists of zeros of one length are equal
pub zeros-same :
    (xs ys : List ℤ) →
    all (λ a. equal a (pos 0)) xs ≡ true →
    all (λ a. equal a (pos 0)) ys ≡ true →
    length xs ≡ length ys →
    xs ≡ ys
unfolding all
zeros-same [] [] e f l = refl
zeros-same [] (y ∷ ys) e f l = absurd (omega arith)
zeros-same (x ∷ xs) [] e f l = absurd (omega arith)
zeros-same (x ∷ xs) (y ∷ ys) e f l =
    ap₂ (λ (a : ℤ) (r : List ℤ). a ∷ r)
    (equal-true _ _ (and_left _ _ e) ∙ sym (equal-true _ _ (and_left _ _ f)))
    (zeros-same xs ys (and_right (equal x (pos 0)) _ e) (and_right (equal y (pos 0)) _ f) (omega arith))

-- what it says that a row holds an atom
pub holds-predicate : (p : ℕ) (ns : List ℤ) (row : Words) → holds p ns row ≡ true → word row 0 ≡ pos p
unfolding holds
holds-predicate p ns row e = equal-true (word row 0) (pos p) (and_left _ _ e)

-- its predicate, as a number
pub holds-value : (p : ℕ) (ns : List ℤ) (row : Words) → holds p ns row ≡ true → value row 0 ≡ p
unfolding value
holds-value p ns row e = ap nat_abs (holds-predicate p ns row e)

-- its first arguments are the atom's numbers
pub holds-arguments : (p : ℕ) (ns : List ℤ) (row : Words) → holds p ns row ≡ true → take (length ns) (arguments row) ≡ ns
unfolding holds
holds-arguments p ns row e =
    equal_all-true (take (length ns) (arguments row)) ns (and_right (equal (word row 0) (pos p)) _ e)

-- a row of that predicate with those first arguments holds the atom
pub holds_intro :
    (p : ℕ) (ns : List ℤ) (row : Words) →
    word row 0 ≡ pos p →
    take (length ns) (arguments row) ≡ ns →
    holds p ns row ≡ true
unfolding holds
holds_intro p ns row e f = rw (e, f) (and-true (equal-refl (pos p)) (equal_all-refl ns))

-- the unused arguments of a good row are 0
pub unused-zero :
    (table row : Words) (p n : ℕ) →
    arity table p ≡ n →
    good_row table row ≡ true →
    value row 0 ≡ p →
    all (λ a. equal a (pos 0)) (drop n (arguments row)) ≡ true
unfolding good_row
unused-zero table row p n a g e =
    subst (λ (k : ℕ). all (λ a. equal a (pos 0)) (drop k (arguments row)) ≡ true)
    (ap (arity table) e ∙ a)
    (and_right (below (predicates table) (word row 0) && within 0 1 (word row 1)) _ g)

-- good rows that hold one atom, with as many numbers as the predicate has arguments, have the same arguments
same-arguments :
    (table r₁ r₂ : Words) (p : ℕ) (ns : List ℤ) →
    good_row table r₁ ≡ true →
    good_row table r₂ ≡ true →
    length (arguments r₁) ≡ length (arguments r₂) →
    length ns ≡ arity table p →
    holds p ns r₁ ≡ true →
    holds p ns r₂ ≡ true →
    arguments r₁ ≡ arguments r₂
same-arguments table r₁ r₂ p ns g₁ g₂ l a h₁ h₂ =
    let n = length ns in
    let used : take n (arguments r₁) ≡ take n (arguments r₂) = holds-arguments p ns r₁ h₁ ∙ sym (holds-arguments p ns r₂ h₂) in
    let z₁ = unused-zero table r₁ p n (sym a) g₁ (holds-value p ns r₁ h₁) in
    let z₂ = unused-zero table r₂ p n (sym a) g₂ (holds-value p ns r₂ h₂) in
    let unused : drop n (arguments r₁) ≡ drop n (arguments r₂) = zeros-same _ _ z₁ z₂ (simp length-drop (rw l)) in
    sym (take-append-drop n (arguments r₁))
    ∙ ap₂ (λ (x y : List ℤ). x ++ y) used unused
    ∙ take-append-drop n (arguments r₂)

-- so they are rows of the same atom to question 10
one-atom :
    (table r₁ r₂ : Words) (p : ℕ) (ns : List ℤ) →
    good_row table r₁ ≡ true →
    good_row table r₂ ≡ true →
    length (arguments r₁) ≡ length (arguments r₂) →
    length ns ≡ arity table p →
    holds p ns r₁ ≡ true →
    holds p ns r₂ ≡ true →
    same_atom r₁ r₂ ≡ true
unfolding same_atom
one-atom table r₁ r₂ p ns g₁ g₂ l a h₁ h₂ =
    rw (holds-predicate p ns r₁ h₁, holds-predicate p ns r₂ h₂, same-arguments table r₁ r₂ p ns g₁ g₂ l a h₁ h₂)
    (and-true (equal-refl (pos p)) (equal_all-refl (arguments r₂)))

-- the rows of a log have eight words
pub row_at-length : (log : Words) (i : ℕ) → i < row_count log → length (row_at log i) ≡ 8
unfolding row_at row_count
row_at-length log i h = length-take-le 8 (drop (8 * i) log) (simp length-drop (omega arith))

-- so six of them are arguments
pub arguments-length : (log : Words) (i : ℕ) → i < row_count log → length (arguments (row_at log i)) ≡ 6
unfolding arguments
arguments-length log i h = rw (length-drop 2 (row_at log i), row_at-length log i h)

-- the rows of a log by their numbers
pub rows_mem : (log : Words) {r : Words} → Memᴰ r (rows log) → (i : ℕ) × (i < row_count log) × (r ≡ row_at log i)
unfolding rows
rows_mem log m =
    let k = map_mem (row_at log) (span 0 (row_count log)) m in
    let h = span_mem 0 (row_count log) k.1 in
    (k.0, omega arith, k.2)

-- questions 9 and 10 of one row
abbrev row_questions : Words → Words → ℕ → Outcome (Unit {0})
row_questions table log r =
    ask (good_row table (row_at log r)) Row r
    >>= λ _. ask (not (any (λ earlier. same_atom (row_at log r) (row_at log earlier)) (span 0 r))) Repeat r

-- what questions 8, 9 and 10 ask of a log
pub record Accepted (table log : Words) : Type 0 where
  pub whole : length log % 8 ≡ 0
  pub short : row_count log ≤ row_limit
  pub good : (i : ℕ) → i < row_count log → good_row table (row_at log i) ≡ true
  pub once : (i j : ℕ) → i < row_count log → j < i → same_atom (row_at log i) (row_at log j) ≡ false

-- an accepted log has answered each of these with yes
pub accepted : (table log : Words) → ask_log table log ≡ passed tt → Accepted table log
unfolding ask_log
accepted table log e =
    let first = then_passed (ask (eqb (length log % 8) 0 && leb (row_count log) row_limit) LogLength 0) _ e in
    let test = ask-passed (eqb (length log % 8) 0 && leb (row_count log) row_limit) LogLength 0 first.1 in
    record {
      whole = eqb-true (length log % 8) 0 (and_left _ _ test);
      short = leb-true (row_count log) row_limit (and_right (eqb (length log % 8) 0) _ test);
      good = λ i h. ask-passed _ _ _ (both i h first.2).1;
      once = λ i j h l.
          any_none _ (not-true _ (ask-passed _ _ _ (both i h first.2).2)) (mem_span 0 i (omega arith) (omega arith));
    }
  where
    both :
        (i : ℕ) →
        i < row_count log →
        in_turn (row_questions table log) (span 0 (row_count log)) ≡ passed tt →
        (a : Unit {0})
        × (ask (good_row table (row_at log i)) Row i ≡ passed a)
        × (ask (not (any (λ earlier. same_atom (row_at log i) (row_at log earlier)) (span 0 i))) Repeat i ≡ passed tt)
    both i h f =
        then_passed (ask (good_row table (row_at log i)) Row i) _
        (in_turn_mem (row_questions table log) f (mem_span 0 (row_count log) (omega arith) (omega arith)))

-- and a log of which that holds is accepted
pub accept : (table log : Words) → Accepted table log → ask_log table log ≡ passed tt
unfolding ask_log
accept table log h =
    pass_then _
    (ask-true LogLength 0 (and-true (eq-eqb (length log % 8) 0 h.whole) (le-leb (row_count log) row_limit h.short)))
    (in_turn_intro (row_questions table log) (span 0 (row_count log)) (λ i m. passes i (span_mem 0 (row_count log) m).1))
  where
    passes : (i : ℕ) → i < 0 + row_count log → row_questions table log i ≡ passed tt
    passes i l =
        pass_then _
        (ask-true Row i (h.good i (omega arith)))
        (ask-true Repeat i
        (ap not (none_any _ (span 0 i) (λ j k. h.once i j (omega arith) (let b = span_mem 0 i k in omega arith)))))

-- of two rows of an accepted log only one holds an atom
row-once :
    (table log : Words) (i j p : ℕ) (ns : List ℤ) →
    Accepted table log →
    i < row_count log →
    j < i →
    length ns ≡ arity table p →
    holds p ns (row_at log i) ≡ true →
    holds p ns (row_at log j) ≡ true →
    ⊥
row-once table log i j p ns ok b l a h k =
    let long = arguments-length log i b ∙ sym (arguments-length log j (omega arith)) in
    let again = one-atom table (row_at log i) (row_at log j) p ns (ok.good i b) (ok.good j (omega arith)) long a h k in
    clash again (ok.once i j b l)

-- so rows that hold the same atom are one row
same_row :
    (table log : Words) (i j p : ℕ) (ns : List ℤ) →
    Accepted table log →
    i < row_count log →
    j < row_count log →
    length ns ≡ arity table p →
    holds p ns (row_at log i) ≡ true →
    holds p ns (row_at log j) ≡ true →
    i ≡ j
same_row table log i j p ns ok bi bj a h k = go (order i j)
  where
    go : (i < j) ⊎ (i ≡ j) ⊎ (j < i) → i ≡ j
    go (inl l) = absurd (row-once table log j i p ns ok bj l a k h)
    go (inr (inl e)) = e
    go (inr (inr l)) = absurd (row-once table log i j p ns ok bi l a h k)

-- an accepted log is sound
pub sound : (table log : Words) → ask_log table log ≡ passed tt → Sound table (rows log)
sound table log e = record {
  agree = λ r₁ r₂ m₁ m₂ p ns a h₁ h₂.
      let (i, bi, ei) = rows_mem log m₁ in
      let (j, bj, ej) = rows_mem log m₂ in
      let q = same_row table log i j p ns (accepted table log e) bi bj a (moved p ns ei h₁) (moved p ns ej h₂) in
      ap says_true (ei ∙ ap (row_at log) q ∙ sym ej);
  six = λ r m. let (i, b, q) = rows_mem log m in rw q (arguments-length log i b);
}
  where
    moved : {r r' : Words} (p : ℕ) (ns : List ℤ) → r ≡ r' → holds p ns r ≡ true → holds p ns r' ≡ true
    moved p ns q h = subst (λ (r : Words). holds p ns r ≡ true) q h

-- the front part of a log has its first rows
pub row_at-front : (log : Words) (k i : ℕ) → i < k → row_at (front k log) i ≡ row_at log i
unfolding row_at front
row_at-front log k i h =
    let e : 8 * k ≡ 8 * i + 8 * (k - i) = omega arith in
    ap (λ (n : ℕ). take 8 (drop (8 * i) (take n log))) e
    ∙ ap (take 8) (drop-take (8 * i) (8 * (k - i)) log)
    ∙ take-take 8 (8 * (k - i)) (drop (8 * i) log) (omega arith)

-- the number of words and of rows of a front part
front_length : (log : Words) (k : ℕ) → length (front k log) ≡ min (8 * k) (length log)
unfolding front
front_length log k = length-take (8 * k) log

row_count-front : (log : Words) (k : ℕ) → row_count (front k log) ≡ min k (row_count log)
unfolding row_count front
row_count-front log k = rw length-take (omega arith)

-- the rows of a front part are the first rows
pub rows-front : (log : Words) (k : ℕ) → rows (front k log) ≡ take k (rows log)
unfolding rows
rows-front log k =
    ap (λ (n : ℕ). map (row_at (front k log)) (span 0 n)) (row_count-front log k)
    ∙ map_same _ _ (span 0 (min k (row_count log)))
    (λ i m. row_at-front log k i (let b = span_mem 0 (min k (row_count log)) m in omega arith))
    ∙ ap (map (row_at log)) (sym (take-span k 0 (row_count log)))
    ∙ sym (take-map k (row_at log) (span 0 (row_count log)))

-- the first rows of sound rows are sound
pub take_mem : {A : Type 0} (k : ℕ) (l : List A) {x : A} → Memᴰ x (take k l) → Memᴰ x l
take_mem zero l m = absurd (Memᴰ.not-nil m)
take_mem (suc k) [] m = m
take_mem (suc k) (y ∷ l) m = ⊎_elim (λ p. Memᴰ.head p) (λ n. Memᴰ.tail (take_mem k l n)) (Memᴰ.cases_cons m)

-- a row of the front part is a row of the log
front-inside : (log : Words) (k i : ℕ) → i < row_count (front k log) → (i < k) × (i < row_count log)
front-inside log k i h = let b = row_count-front log k in omega arith

-- the front part of an accepted log is accepted
pub front-accepted : (table log : Words) (k : ℕ) → ask_log table log ≡ passed tt → ask_log table (front k log) ≡ passed tt
front-accepted table log k e =
    let ok : Accepted table log = accepted table log e in
    accept table (front k log) (record {
      whole = let b = ok.whole in rw (front_length log k) (omega arith);
      short = rw (row_count-front log k) (let b = ok.short in omega arith);
      good = λ i h.
          let (l, b) = front-inside log k i h in
          rw (row_at-front log k i l) (ok.good i b);
      once = λ i j h m.
          let (l, b) = front-inside log k i h in
          rw (row_at-front log k i l, row_at-front log k j (omega arith)) (ok.once i j b m);
    })

-- sound rows without the first are sound
tail-sound : {table row : Words} {rest : List Words} → Sound table (row ∷ rest) → Sound table rest
tail-sound s =
    record {
      agree = λ r₁ r₂ m₁ m₂. s.agree r₁ r₂ (Memᴰ.tail m₁) (Memᴰ.tail m₂);
      six = λ r m. s.six r (Memᴰ.tail m);
    }

-- a value is known in one way, and not both known and unknown
pub known_same : {a b : Bool} → known a ≡ known b → a ≡ b
known_same e = cc

pub unknown-known : {b : Bool} → unknown ≡ known b → ⊥
unknown-known e = let z : ◌≡◌ {A = ℕ} 0 1 = cc in omega arith

-- with no row, an atom is known only if its predicate is complete, and then as false
pub no_row : (c b : Bool) → cond c (known false) unknown ≡ known b → (c ≡ true) × (b ≡ false)
no_row true b e = (refl, sym (known_same e))
no_row false b e = absurd (unknown-known e)

-- of two Bools that are not both true, with the second true, the first is false
not-both : (a c : Bool) → not (a && c) ≡ true → c ≡ true → a ≡ false
not-both true true e h = sym e
not-both true false e h = sym h
not-both false c e h = refl

-- the value of an atom is what a row that holds it says
pub value_of_row :
    (table : Words) (rows : List Words) (p : ℕ) (ns : List ℤ) {r : Words} →
    Sound table rows →
    length ns ≡ arity table p →
    Memᴰ r rows →
    holds p ns r ≡ true →
    value_in table rows p ns ≡ known (says_true r)
unfolding value_in
value_of_row table [] p ns s a m h = absurd (Memᴰ.not-nil m)
value_of_row table (row ∷ rest) p ns {r} s a m h =
    ⊎_elim
    (λ k. rw k (ap known (s.agree row r (Memᴰ.head refl) m p ns a k h)))
    (λ k. rw k (value_of_row table rest p ns (tail-sound s) a (later k (Memᴰ.cases_cons m)) h))
    (decide (holds p ns row))
  where
    later : holds p ns row ≡ false → (r ≡ row) ⊎ Memᴰ r rest → Memᴰ r rest
    later k (inl q) = clash h (ap (holds p ns) q ∙ k)
    later k (inr n) = n

-- a row behind a value
pub row_of_value :
    (table : Words) (rows : List Words) (p : ℕ) (ns : List ℤ) →
    value_in table rows p ns ≡ known true →
    (r : Words) × Memᴰ r rows × (holds p ns r ≡ true) × (says_true r ≡ true)
unfolding value_in
row_of_value table [] p ns e = clash refl (no_row (complete table p) true e).1
row_of_value table (row ∷ rest) p ns e =
    ⊎_elim
    (λ k. (row, Memᴰ.head refl, k, known_same (rw k at e)))
    (λ k. let (r, m, h, t) = row_of_value table rest p ns (rw k at e) in (r, Memᴰ.tail m, h, t))
    (decide (holds p ns row))

-- an atom's numbers, filled up to six with 0 as the arguments of a good row are: a row holds the one exactly if it holds the other
pub zeros-all : (k : ℕ) → all (λ a. equal a (pos 0)) (replicate k (pos 0)) ≡ true
unfolding all
zeros-all zero = refl
zeros-all (suc k) = and-true (equal-refl (pos 0)) (zeros-all k)

pub holds-filled :
    (table row : Words) (p : ℕ) (ns : List ℤ) →
    good_row table row ≡ true →
    length (arguments row) ≡ 6 →
    length ns ≡ arity table p →
    length ns ≤ 6 →
    holds p ns row ≡ holds p (ns ++ replicate (6 - length ns) (pos 0)) row
holds-filled table row p ns g six a few =
    ⊎_elim
    (λ h.
    let zero-there = unused-zero table row p (length ns) (sym a) g (holds-value p ns row h) in
    let unused : drop (length ns) (arguments row) ≡ zeros =
    zeros-same _ _ zero-there (zeros-all (6 - length ns)) (rw (length-drop (length ns) (arguments row), length-replicate (6 - length ns) (pos 0), six)) in
    let whole : arguments row ≡ ns ++ zeros =
    sym (take-append-drop (length ns) (arguments row)) ∙ ap₂ (λ (x y : List ℤ). x ++ y) (holds-arguments p ns row h) unused in
    h ∙ sym (holds_intro p (ns ++ zeros) row (holds-predicate p ns row h) (take_all (length (ns ++ zeros)) (arguments row) (omega (arith, six, long)) ∙ whole)))
    (λ h.
    ⊎_elim
    (λ k.
    let whole : arguments row ≡ ns ++ zeros =
    sym (take_all (length (ns ++ zeros)) (arguments row) (omega (arith, six, long))) ∙ holds-arguments p (ns ++ zeros) row k in
    let first : take (length ns) (arguments row) ≡ ns = ap (take (length ns)) whole ∙ take_at ns zeros (length ns) refl in
    clash (holds_intro p ns row (holds-predicate p (ns ++ zeros) row k) first) h)
    (λ k. h ∙ sym k)
    (decide (holds p (ns ++ zeros) row)))
    (decide (holds p ns row))
  where
    zeros : List ℤ
    zeros = replicate (6 - length ns) (pos 0)

    long : length (ns ++ zeros) ≡ 6
    long = length-append ns zeros ∙ ap (λ (k : ℕ). length ns + k) (length-replicate (6 - length ns) (pos 0)) ∙ omega arith

-- so the two have the same value
rows-filled :
    (table : Words) (rows : List Words) (p : ℕ) (ns : List ℤ) →
    ((r : Words) → Memᴰ r rows → (good_row table r ≡ true) × (length (arguments r) ≡ 6)) →
    length ns ≡ arity table p →
    length ns ≤ 6 →
    value_in table rows p ns ≡ value_in table rows p (ns ++ replicate (6 - length ns) (pos 0))
unfolding value_in
rows-filled table [] p ns g a few = refl
rows-filled table (row ∷ rest) p ns g a few =
    let here = g row (Memᴰ.head refl) in
    ap₂ (λ (b : Bool) (v : Value). cond b (known (says_true row)) v)
    (holds-filled table row p ns here.0 here.1 a few)
    (rows-filled table rest p ns (λ r m. g r (Memᴰ.tail m)) a few)

pub value-filled :
    (table log : Words) (p : ℕ) (ns : List ℤ) →
    ask_log table log ≡ passed tt →
    length ns ≡ arity table p →
    length ns ≤ 6 →
    value_in table (rows log) p ns ≡ value_in table (rows log) p (ns ++ replicate (6 - length ns) (pos 0))
value-filled table log p ns e a few =
    rows-filled table (rows log) p ns
    (λ r m.
    let (i, b, q) = rows_mem log m in
    (ap (good_row table) q ∙ (accepted table log e).good i b, ap (λ (r : Words). length (arguments r)) q ∙ arguments-length log i b))
    a few

-- rows that say true of no complete predicate leave a complete predicate's atoms false
rest-false :
    (table : Words) (rows : List Words) (p : ℕ) (ns : List ℤ) →
    all (λ row. not (says_true row && complete table (value row 0))) rows ≡ true →
    complete table p ≡ true →
    value_in table rows p ns ≡ known false
unfolding value_in all
rest-false table [] p ns e c = rw c
rest-false table (row ∷ rest) p ns e c =
    ⊎_elim
    (λ h. rw h (ap known (says_false h)))
    (λ h. rw h (rest-false table rest p ns (and_right (not (says_true row && complete table (value row 0))) _ e) c))
    (decide (holds p ns row))
  where
    says_false : holds p ns row ≡ true → says_true row ≡ false
    says_false h = not-both (says_true row) _ (and_left _ _ e) (ap (complete table) (holds-value p ns row h) ∙ c)

-- behind a front part with such rows only, what the front part knows stays as it is
pub front-extends :
    (table : Words) (rows : List Words) (k : ℕ) →
    all (λ row. not (says_true row && complete table (value row 0))) (drop k rows) ≡ true →
    Extends table (value_in table (take k rows)) (value_in table rows)
unfolding Extends value_in
front-extends table rows zero e p ns g b f =
    let (c, q) = no_row (complete table p) b f in
    rest-false table rows p ns e c ∙ ap known (sym q)
front-extends table [] (suc k) e p ns g b f = f
front-extends table (row ∷ rest) (suc k) e p ns g b f =
    ⊎_elim
    (λ h. rw h (rw h at f))
    (λ h. rw h (front-extends table rest k e p ns g b (rw h at f)))
    (decide (holds p ns row))

-- The terms of an atom against the arguments of a row, one at a time from the left.
use Prim.Native.Nat.{ℕ, ◌+◌, ◌*◌, ◌≤◌, ◌<◌}
use native.Mathlib.Omega.{arith}
use native.Mathlib.Numerals.{add-one}
use mathlib.Core.Path.{◌≡◌, refl, sym, ap, ap₂, ◌∙◌}
use mathlib.Core.Bool.{true, false, true≢false, false≢true}
use mathlib.Core.List.{List, [], ◌∷◌, append-nil}
use lib.ListN.{length, get_or, take, drop, length-drop}
use lib.Seq.{drop-cons, get_or-drop, get_or-take, length-take-le}
use lib.IntN.{ℤ, pos}
use Rattle.model.specs.Words.{Words, word, value, equal}
use Rattle.model.specs.Lists.{all, gather}
use Rattle.model.specs.Log.{row_at, arguments}
use Rattle.model.specs.Tree.{Term, variable}
use Rattle.model.specs.Reading.{places, in_scope, term_at}
use Rattle.model.specs.Listing.{Slot, bound, free, Environment, bind, number_in, look, meet, fit}
use Rattle.policies.specs.Standing.{terms_at}
use Rattle.policies.proofs.TermLaws.{place-holds, variable-small, term-constant, term-variable, terms_from, terms-first, terms-next, terms-last}
use Rattle.environments.specs.declared.environment.Environment.{Environment as Held}
use Rattle.environments.specs.Environment.{is_bound, Holds}
use Rattle.std.specs.Prelude.{Option, Some, None}
use Rattle.matching.specs.Fitting.{Fitted}
use Rattle.environments.proofs.Places.{held_number, held-mark}

-- one term more against one argument more
module _ (t : Term) (ts : List Term) (a : ℤ) (rest : List ℤ) (e : Environment) where
  fit_same : (k : ℤ) → look e t ≡ bound k → equal k a ≡ true → fit (t ∷ ts) (a ∷ rest) e ≡ fit ts rest e
  unfolding fit meet gather
  fit_same k q s = rw (q, s) (append-nil (fit ts rest e))

  pub fit-other : (k : ℤ) → look e t ≡ bound k → equal k a ≡ false → fit (t ∷ ts) (a ∷ rest) e ≡ []
  unfolding fit meet gather
  fit-other k q s = rw (q, s)

  fit_free : (x : ℕ) → t ≡ variable x → e x ≡ free → fit (t ∷ ts) (a ∷ rest) e ≡ fit ts rest (bind e x a)
  unfolding fit meet gather look
  fit_free x p q = rw (p, q) (append-nil (fit ts rest (bind e x a)))

-- a slot by its mark
pub marked : (s : Slot) → is_bound s ≡ true → s ≡ bound (number_in s)
unfolding is_bound number_in
marked (bound k) q = refl
marked free q = absurd (false≢true q)

unmarked : (s : Slot) → is_bound s ≡ false → s ≡ free
unfolding is_bound
unmarked (bound k) q = absurd (true≢false q)
unmarked free q = refl

-- the arguments of a row from number i on
pub argument_next :
    (log : Words) (row i : ℕ) →
    8 * row + 8 ≤ length log →
    i < 6 →
    drop i (arguments (row_at log row)) ≡ get_or log (8 * row + 2 + i) (pos 0) ∷ drop (i + 1) (arguments (row_at log row))
unfolding arguments row_at
argument_next log row i h k =
    let cut = take 8 (drop (8 * row) log) in
    let eight : length cut ≡ 8 = length-take-le 8 (drop (8 * row) log) (rw (length-drop (8 * row) log) (omega arith)) in
    let at : get_or (drop 2 cut) i (pos 0) ≡ get_or log (8 * row + 2 + i) (pos 0) =
    get_or-drop 2 cut i (pos 0)
    ∙ get_or-take 8 (drop (8 * row) log) (2 + i) (pos 0) (omega arith)
    ∙ get_or-drop (8 * row) log (2 + i) (pos 0)
    ∙ ap (λ (n : ℕ). get_or log n (pos 0)) (omega arith) in
    drop-cons (drop 2 cut) i (pos 0) (rw (length-drop 2 cut) (omega arith))
    ∙ ap₂ (λ (a : ℤ) (n : ℕ). a ∷ drop n (drop 2 cut)) at (sym (add-one i))

module _ (words : Words) (first n : ℕ) (log : Words) (row : ℕ) where
  -- what the terms from number i on make of the arguments from number i on
  abbrev fit_from : ℕ → Environment → List Environment
  fit_from i e = fit (terms_from words first n i) (drop i (arguments (row_at log row))) e

  fit-first : (e : Environment) → fit (terms_at words first n) (arguments (row_at log row)) e ≡ fit_from 0 e
  fit-first e = ap (λ (ts : List Term). fit ts (arguments (row_at log row)) e) (terms-first words first n)

  fit-last : (e : Environment) (i : ℕ) → n ≤ i → fit_from i e ≡ e ∷ []
  unfolding fit
  fit-last e i h = ap (λ (ts : List Term). fit ts (drop i (arguments (row_at log row))) e) (terms-last words first n i h)

-- the walk along a row: what it makes of the first environment is what is left to make of the one that it has come to
pub record Going (words : Words) (first n : ℕ) (log : Words) (row : ℕ) (start held : Held) (i : ℕ) : Type 0 where
  pub comes :
      (e : Environment) →
      Holds start e →
      (f : Environment)
      × Holds held f
      × (fit (terms_at words first n) (arguments (row_at log row)) e ≡ fit_from words first n log row i f)

-- what a row came to
abbrev pub Came : (words : Words) (first n : ℕ) (log : Words) (row : ℕ) (start : Held) (r : Option Held) → Type 0
Came words first n log row start r =
    (e : Environment) →
    Holds start e →
    Fitted (fit (terms_at words first n) (arguments (row_at log row)) e) r

pub going_first : (words : Words) (first n : ℕ) (log : Words) (row : ℕ) (start : Held) → Going words first n log row start start 0
going_first words first n log row start = record { comes = λ e h. (e, h, fit-first words first n log row e) }

pub going_last :
    {words : Words} {first n : ℕ} {log : Words} {row : ℕ} {start held : Held} {i : ℕ} →
    n ≤ i →
    Going words first n log row start held i →
    Came words first n log row start (Some held)
going_last {words} {first} {n} {log} {row} {i = i} l g e h =
    let (f, k, q) = g.comes e h in
    (f, q ∙ fit-last words first n log row f i l, k)

-- one turn of the walk
module _
    {words log : Words} {first n row i : ℕ} {start held : Held}
    (whole : 8 * row + 8 ≤ length log) (six : n ≤ 6) (more : i < n)
    (going : Going words first n log row start held i)
  where
    -- the next term's index and the next argument; what is left to make of an environment
    abbrev place : ℕ
    place = first + 2 * i

    abbrev against : ℤ
    against = get_or log (8 * row + 2 + i) (pos 0)

    abbrev left_to_make : ℕ → Environment → List Environment
    left_to_make j f = fit_from words first n log row j f

    fit_next :
        (f : Environment) →
        left_to_make i f
        ≡ fit (term_at words place ∷ terms_from words first n (i + 1)) (against ∷ drop (i + 1) (arguments (row_at log row))) f
    fit_next f =
        ap₂ (λ (ts : List Term) (l : List ℤ). fit ts l f)
        (terms-next words first n i more)
        (argument_next log row i whole (omega (arith, more, six)))

    -- the walk goes on with an environment, or the row is left
    abbrev pub OnWith : (next : Held) → Type 0
    OnWith next = Going words first n log row start next (i + 1)

    abbrev pub Left : Type 0
    Left = Came words first n log row start None

    goes_on_lem :
        (next : Held) (change : Environment → Environment) →
        ((f : Environment) → Holds held f → Holds next (change f)) →
        ((f : Environment) → Holds held f → left_to_make i f ≡ left_to_make (i + 1) (change f)) →
        OnWith next
    goes_on_lem next change hold step = record {
      comes = λ e h. let (f, k, q) = going.comes e h in (change f, hold f k, q ∙ step f k);
    }

    is-left : ((f : Environment) → Holds held f → left_to_make i f ≡ []) → Left
    is-left stop e h =
        let (f, k, q) = going.comes e h in
        q ∙ stop f k

    -- the next term has a number: it is the argument, or another
    module _ (k : ℤ) (known : (f : Environment) → Holds held f → look f (term_at words place) ≡ bound k) where
      same_on : equal k against ≡ true → OnWith held
      same_on s = goes_on_lem held (λ f. f) (λ f h. h) (λ f h. fit_next f ∙ fit_same _ _ _ _ f k (known f h) s)

      other-left : equal k against ≡ false → Left
      other-left s = is-left (λ f h. fit_next f ∙ fit-other _ _ _ _ f k (known f h) s)

    -- a constant
    module _ (q : equal (word words place) (pos 0) ≡ true) (k : ℤ) (is : k ≡ word words (place + 1)) where
      constant-known : (f : Environment) → Holds held f → look f (term_at words place) ≡ bound k
      unfolding look
      constant-known f h = ap (look f) (term-constant words place q) ∙ ap bound (sym is)

      pub constant_on : equal k against ≡ true → OnWith held
      constant_on s = same_on k constant-known s

      pub constant-left : equal k against ≡ false → Left
      constant-left s = other-left k constant-known s

    -- a variable is one of sixteen
    pub next_small :
        {x : ℕ} → all (in_scope words 16) (places first n) ≡ true → equal (word words place) (pos 0) ≡ false → x ≡ value words (place + 1) → x < 16
    next_small scoped q is =
        let v = variable-small words place 16 (place-holds (in_scope words 16) first n i scoped more) q in
        omega arith

    module _ (q : equal (word words place) (pos 0) ≡ false) (x : ℕ) (is : x ≡ value words (place + 1)) (small : x < 16) where
      next-variable : term_at words place ≡ variable x
      next-variable = term-variable words place q ∙ ap variable (sym is)

      -- it is bound
      module _ (m : get_or held.marks x false ≡ true) where
        variable-known : (f : Environment) → Holds held f → look f (term_at words place) ≡ bound (get_or held.numbers x (pos 0))
        unfolding look
        variable-known f h =
            ap (look f) next-variable ∙ marked (f x) (sym (held-mark h x small) ∙ m) ∙ ap bound (sym (held_number h x small))

        pub variable_on : equal (get_or held.numbers x (pos 0)) against ≡ true → OnWith held
        variable_on s = same_on (get_or held.numbers x (pos 0)) variable-known s

        pub variable-left : equal (get_or held.numbers x (pos 0)) against ≡ false → Left
        variable-left s = other-left (get_or held.numbers x (pos 0)) variable-known s

      -- it is free, and is bound to the argument
      pub variable-bound : (next : Held) → ((f : Environment) → Holds held f → Holds next (bind f x against)) → get_or held.marks x false ≡ false → OnWith next
      variable-bound next hold m =
          goes_on_lem next (λ f. bind f x against) hold (λ f h.
          fit_next f ∙ fit_free _ _ _ _ f x next-variable (unmarked (f x) (sym (held-mark h x small) ∙ m)))

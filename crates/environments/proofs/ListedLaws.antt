-- Laws of lists of environments in scratch: which words stand for which number, and what a list of one more is. By induction on the
-- list.
use Prim.Native.Nat.{ℕ, zero, suc, ◌+◌, ◌*◌, ◌-◌, ◌≤◌, ◌<◌}
use native.Mathlib.Omega.{arith}
use mathlib.Core.Path.{◌≡◌, refl, sym, ap, ap₂, ◌∙◌}
use mathlib.Core.List.{List, [], ◌∷◌, ◌++◌, map, append_assoc, append-nil}
use lib.ListN.{length, get_or, take, drop, length-append, length-drop, length-map, get_or-map}
use lib.Seq.{get_or-take, get_or-drop, ext_get_or, take_at, drop_at, drop-append-add, drop-drop, take-append-le, take-take, take-add}
use lib.Seq.{length-take-le}
use lib.IntN.{ℤ, pos}
use Rattle.model.specs.Words.{Words, word}
use Rattle.model.specs.Lists.{span, gather}
use Rattle.model.specs.Listing.{free, Environment}
use Rattle.model.specs.Reduction.{tuple}
use Rattle.laws.specs.Lists.Span.{drop-take}
use Rattle.laws.specs.Listing.Outer.{tuple-length, tuple-number}
use Rattle.environments.specs.Environment.{place_of, place_at, stored}
use Rattle.environments.specs.Listed.{Listed, spaced}
use Rattle.environments.proofs.Places.{place-length, place-number, made-length, made_at}

-- the environment of a number in a list; past the end stands one where every variable is free
abbrev pub environment_of : (es : List Environment) (j : ℕ) → Environment
environment_of es j = get_or es j (λ x. free)

module _ {A B : Type 0} (f : A → List B) where
  -- lists made of a list and one more
  pub gather_snoc : (xs : List A) (x : A) → gather f (xs ++ x ∷ []) ≡ gather f xs ++ f x
  unfolding gather
  gather_snoc [] x = append-nil (f x)
  gather_snoc (y ∷ xs) x = ap (λ (r : List B). f y ++ r) (gather_snoc xs x) ∙ sym (append_assoc (f y) (gather f xs) (f x))

-- the places of a list have 17 words for each environment
pub places-length : (es : List Environment) → length (gather place_of es) ≡ 17 * length es
unfolding gather
places-length [] = refl
places-length (e ∷ es) =
    let one = place-length e in
    let rest = places-length es in
    length-append (place_of e) (gather place_of es) ∙ omega arith

-- the place of a number
pub places-at : (es : List Environment) (j : ℕ) → j < length es → take 17 (drop (17 * j) (gather place_of es)) ≡ place_of (environment_of es j)
unfolding gather
places-at [] j h = absurd (omega arith)
places-at (e ∷ es) zero h = take_at (place_of e) (gather place_of es) 17 (place-length e)
places-at (e ∷ es) (suc j) h =
    let on : 17 * suc j ≡ length (place_of e) + 17 * j = omega (arith, place-length e) in
    ap (λ (n : ℕ). take 17 (drop n (place_of e ++ gather place_of es))) on
    ∙ ap (take 17) (drop-append-add (place_of e) (gather place_of es) (17 * j))
    ∙ places-at es j (omega arith)

-- the tuple of an environment stands in its place
pub place-tuple : (e : Environment) (scope v : ℕ) → scope + v ≤ 16 → take v (drop scope (place_of e)) ≡ tuple scope v e
unfolding word
place-tuple e scope v h =
    let long : length (take v (drop scope (place_of e))) ≡ v = length-take-le v (drop scope (place_of e)) (rw (length-drop scope (place_of e), place-length e) (omega arith)) in
    ext_get_or (pos 0) _ _ (long ∙ sym (tuple-length scope v e)) (λ x l.
    let small : x < v = omega arith in
    get_or-take v (drop scope (place_of e)) x (pos 0) small
    ∙ get_or-drop scope (place_of e) x (pos 0)
    ∙ place-number e (scope + x) (omega arith)
    ∙ sym (tuple-number scope v e x small))

-- the words of a tuple are words of its place
pub tuple-part : (scratch : Words) (place scope v : ℕ) → scope + v ≤ 16 → take v (drop (17 * place + scope) scratch) ≡ take v (drop scope (place_at scratch place))
tuple-part scratch place scope v h =
    let part = drop (17 * place) scratch in
    let cut : 17 ≡ scope + (17 - scope) = omega arith in
    ap (take v) (sym (drop-drop scope (17 * place) scratch))
    ∙ sym (take-take v (17 - scope) (drop scope part) (omega arith))
    ∙ ap (take v) (sym (drop-take scope (17 - scope) part))
    ∙ ap (λ (n : ℕ). take v (drop scope (take n part))) (sym cut)

-- the words of a tuple, given the words of its place
pub tuple-here :
    (scratch : Words) (place : ℕ) (e : Environment) (scope v : ℕ) →
    place_at scratch place ≡ place_of e →
    scope + v ≤ 16 →
    take v (drop (17 * place + scope) scratch) ≡ tuple scope v e
tuple-here scratch place e scope v here h =
    tuple-part scratch place scope v h ∙ ap (λ (ws : Words). take v (drop scope ws)) here ∙ place-tuple e scope v h

module _ (scratch : Words) (first : ℕ) where
  -- no environment
  pub listed-none : Listed scratch first []
  unfolding gather
  listed-none = record { stands = refl }

  -- one more environment, at the place behind the others
  pub listed_more :
      (es : List Environment) (e : Environment) →
      Listed scratch first es →
      place_at scratch (first + length es) ≡ place_of e →
      Listed scratch first (es ++ e ∷ [])
  listed_more es e l here =
      let part = drop (17 * first) scratch in
      let n = length es in
      let more : 17 * length (es ++ e ∷ []) ≡ 17 * n + 17 = ap (λ (k : ℕ). 17 * k) (length-append es (e ∷ [])) ∙ omega arith in
      let next : 17 * first + 17 * n ≡ 17 * (first + n) = omega arith in
      record {
        stands =
            ap (λ (k : ℕ). take k part) more
            ∙ take-add (17 * n) 17 part
            ∙ ap₂ (λ (p q : Words). p ++ q) l.stands (ap (take 17) (drop-drop (17 * n) (17 * first) scratch ∙ ap (λ (k : ℕ). drop k scratch) next) ∙ here)
            ∙ sym (gather_snoc place_of es e);
      }

  -- the list stands as long as the words up to its end do
  pub listed_kept :
      (after : Words) (es : List Environment) →
      Listed scratch first es →
      take (17 * (first + length es)) after ≡ take (17 * (first + length es)) scratch →
      Listed after first es
  listed_kept after es l same =
      let n = length es in
      let both : 17 * (first + n) ≡ 17 * first + 17 * n = omega arith in
      let cut : (ws : Words) → drop (17 * first) (take (17 * (first + n)) ws) ≡ take (17 * n) (drop (17 * first) ws) =
      λ ws. ap (λ (k : ℕ). drop (17 * first) (take k ws)) both ∙ drop-take (17 * first) (17 * n) ws in
      record { stands = sym (cut after) ∙ ap (drop (17 * first)) same ∙ cut scratch ∙ l.stands }

  module _ (es : List Environment) (l : Listed scratch first es) where
    -- the place of the environment of a number
    pub listed_at : (j : ℕ) → j < length es → place_at scratch (first + j) ≡ place_of (environment_of es j)
    listed_at j h =
        let n = length es in
        let part = drop (17 * first) scratch in
        let cut : 17 * n ≡ 17 * j + 17 * (n - j) = omega arith in
        let next : 17 * (first + j) ≡ 17 * first + 17 * j = omega arith in
        ap (λ (k : ℕ). take 17 (drop k scratch)) next
        ∙ ap (take 17) (sym (drop-drop (17 * j) (17 * first) scratch))
        ∙ sym (take-take 17 (17 * (n - j)) (drop (17 * j) part) (omega arith))
        ∙ ap (take 17) (sym (drop-take (17 * j) (17 * (n - j)) part))
        ∙ ap (λ (k : ℕ). take 17 (drop (17 * j) (take k part))) (sym cut)
        ∙ ap (λ (ws : Words). take 17 (drop (17 * j) ws)) l.stands
        ∙ places-at es j h

    module _ (scope v : ℕ) (small : scope + v ≤ 16) where
      -- its tuple stands there
      pub listed-tuple : (j : ℕ) → j < length es → take v (drop (17 * (first + j) + scope) scratch) ≡ tuple scope v (environment_of es j)
      listed-tuple j h = tuple-here scratch (first + j) (environment_of es j) scope v (listed_at j h) small

      -- the tuples of the list stand a place apart
      pub listed-tuples : spaced scratch v (17 * first + scope) 17 (length es) ≡ map (tuple scope v) es
      unfolding spaced
      listed-tuples =
          let f : ℕ → List ℤ = λ i. take v (drop (17 * first + scope + 17 * i) scratch) in
          let n = length es in
          let d = tuple scope v (λ x. free) in
          let long = length-map es (tuple scope v) in
          ext_get_or d (map f (span 0 n)) (map (tuple scope v) es) (made-length f 0 n ∙ sym long) (λ j h.
          let small : j < n = omega (arith, made-length f 0 n) in
          let same : 17 * first + scope + 17 * j ≡ 17 * (first + j) + scope = omega arith in
          made_at f n j d small
          ∙ ap (λ (k : ℕ). take v (drop k scratch)) same
          ∙ listed-tuple j small
          ∙ sym (get_or-map (tuple scope v) es j (λ x. free)))

-- scratch with other words stored in the place of as many of its own: they stand there, and the words before and behind are kept
module _ (scratch part : Words) (at n : ℕ) (long : length part ≡ n) (room : at + n ≤ length scratch) where
  abbrev pub laid : Words
  laid = take at scratch ++ (part ++ drop (at + n) scratch)

  laid-head : length (take at scratch) ≡ at
  laid-head = length-take-le at scratch (omega arith)

  pub laid-length : length laid ≡ length scratch
  laid-length = simp (length-append, laid-head, long, length-drop) (omega arith)

  pub laid-front : (k : ℕ) → k ≤ at → take k laid ≡ take k scratch
  laid-front k h = take-append-le k (take at scratch) _ (omega (arith, laid-head)) ∙ take-take k at scratch h

  pub laid-here : take n (drop at laid) ≡ part
  laid-here = ap (take n) (drop_at (take at scratch) _ at laid-head) ∙ take_at part _ n long

  pub laid-behind : (k : ℕ) → at + n ≤ k → drop k laid ≡ drop k scratch
  laid-behind k h =
      let front = take at scratch ++ part in
      let rest = drop (at + n) scratch in
      let all : length front ≡ at + n = length-append (take at scratch) part ∙ ap₂ (λ (i j : ℕ). i + j) laid-head long in
      let near : k ≡ length front + (k - (at + n)) = omega arith in
      let far : at + n + (k - (at + n)) ≡ k = omega arith in
      ap (drop k) (sym (append_assoc (take at scratch) part rest))
      ∙ ap (λ (j : ℕ). drop j (front ++ rest)) near
      ∙ drop-append-add front rest (k - (at + n))
      ∙ drop-drop (k - (at + n)) (at + n) scratch
      ∙ ap (λ (j : ℕ). drop j scratch) far

-- an environment stored behind a list
pub listed-stored :
    (scratch : Words) (first : ℕ) (es : List Environment) (e : Environment) →
    17 * (first + length es) + 17 ≤ length scratch →
    Listed scratch first es →
    Listed (stored scratch (first + length es) e) first (es ++ e ∷ [])
listed-stored scratch first es e room l =
    let at = 17 * (first + length es) in
    listed_more (stored scratch (first + length es) e) first es e
    (listed_kept scratch first (stored scratch (first + length es) e) es l (laid-front scratch (place_of e) at 17 (place-length e) room at (omega arith)))
    (laid-here scratch (place_of e) at 17 (place-length e) room)

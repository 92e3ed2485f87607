-- The terms that stand in words: each by its kind, and one after another.
use Prim.Native.Nat.{ℕ, suc, ◌+◌, ◌*◌, ◌-◌, ◌≤◌, ◌<◌}
use native.Mathlib.Omega.{arith}
use native.Mathlib.Nat.{sub-zero, zero-add}
use native.Mathlib.Numerals.{add-one}
use mathlib.Core.Path.{◌≡◌}
use mathlib.Core.Logic.{⊎_elim}
use mathlib.Core.Bool.{Bool, true, false}
use mathlib.Core.List.{List, [], ◌∷◌, map}
use lib.IntN.{pos}
use Rattle.model.specs.Words.{Words, word, value, equal}
use Rattle.model.specs.Lists.{span, all}
use Rattle.model.specs.Tree.{Term, constant, variable}
use Rattle.model.specs.Reading.{places, term_at, in_scope}
use Rattle.laws.specs.Words.Tests.{or_cases, clash}
use Rattle.laws.specs.Words.Standing.{below-value}
use Rattle.laws.specs.Lists.Membership.{all_mem, mem_map}
use Rattle.laws.specs.Lists.Span.{mem_span}
use Rattle.policies.specs.Standing.{terms_at}

module _ (words : Words) (i : ℕ) where
  -- a variable in scope is a small number
  pub variable-small : (scope : ℕ) → in_scope words scope i ≡ true → equal (word words i) (pos 0) ≡ false → value words (i + 1) < scope
  unfolding in_scope value
  variable-small scope h e =
      ⊎_elim (λ k. clash k e) (λ k. (below-value scope (word words (i + 1)) k).1) (or_cases _ _ h)

-- the term at an index, by its kind
pub term-constant : (words : Words) (i : ℕ) → equal (word words i) (pos 0) ≡ true → term_at words i ≡ constant (word words (i + 1))
unfolding term_at
term-constant words i e = rw e

pub term-variable : (words : Words) (i : ℕ) → equal (word words i) (pos 0) ≡ false → term_at words i ≡ variable (value words (i + 1))
unfolding term_at
term-variable words i e = rw e

-- of a test that holds of all places, each one
pub place-holds : (test : ℕ → Bool) (first n i : ℕ) → all test (places first n) ≡ true → i < n → test (first + 2 * i) ≡ true
unfolding places
place-holds test first n i h k = all_mem test h (mem_map (λ (j : ℕ). first + 2 * j) (mem_span 0 n (omega arith) (omega (arith, zero-add n))))

-- the terms from number i on
abbrev pub terms_from : (words : Words) (first n i : ℕ) → List Term
terms_from words first n i = map (term_at words) (map (λ k. first + 2 * k) (span i (n - i)))

module _ (words : Words) (first n : ℕ) where
  pub terms-first : terms_at words first n ≡ terms_from words first n 0
  unfolding terms_at places
  terms-first = rw (sub-zero n)

  pub terms-next : (i : ℕ) → i < n → terms_from words first n i ≡ term_at words (first + 2 * i) ∷ terms_from words first n (i + 1)
  unfolding span
  terms-next i h = let some : n - i ≡ suc (n - (i + 1)) = omega arith in rw (some, add-one i)

  pub terms-last : (i : ℕ) → n ≤ i → terms_from words first n i ≡ []
  unfolding span
  terms-last i h = let none : n - i ≡ 0 = omega arith in rw none

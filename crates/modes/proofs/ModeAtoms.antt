-- The mode rule at an atom and at a comparison, by the tests that the code makes.
use Prim.Native.Nat.{ℕ, ◌+◌, ◌*◌}
use mathlib.Core.Path.{◌≡◌, sym, ap, ◌∙◌}
use mathlib.Core.Bool.{Bool, true, false, ◌&&◌}
use mathlib.Core.List.{List, [], ◌∷◌}
use lib.IntN.{ℤ}
use Rattle.model.specs.declared.Refusal.TheVariants.{Mode}
use Rattle.model.specs.Words.{Words, value}
use Rattle.model.specs.Lists.{all}
use Rattle.model.specs.Answer.{passed, refused, ask, ◌>>=◌, refused_at}
use Rattle.model.specs.Tree.{Term, atom, compare}
use Rattle.model.specs.Mode.{Variables, is_bound, inputs_bound, bindings}
use Rattle.laws.specs.Reading.Parts.{AtomParts, CompareParts}
use Rattle.policies.specs.Standing.{terms_at}
use Rattle.modes.specs.Mode.{set_of, with_terms, Binds}
use Rattle.std.specs.Prelude.{Result, Ok, Err}
use Rattle.model.specs.declared.Refused.{Refused}
use Rattle.modes.specs.declared.marks.Marks.{Marks}
use Rattle.modes.specs.declared.mode.Bound.{Bound}
use Rattle.policies.proofs.Standing.{AtomWords, atom-words, compare-words}
use Rattle.modes.proofs.ModeTerms.{and-true}

module _ (table : Words) (b : Variables) (scope at : ℕ) where
  module _ (p : ℕ) (ts : List Term) where
    pub holds-no : inputs_bound table p b 0 ts ≡ false → bindings (atom true p ts) table b scope at ≡ refused Mode at
    unfolding bindings ask ◌>>=◌
    holds-no e = rw e

    pub holds-yes : inputs_bound table p b 0 ts ≡ true → bindings (atom true p ts) table b scope at ≡ passed (with_terms b ts)
    unfolding bindings ask ◌>>=◌ with_terms
    holds-yes e = rw e

    pub fails_no : all (is_bound b) ts ≡ false → bindings (atom false p ts) table b scope at ≡ refused Mode at
    unfolding bindings ask ◌>>=◌
    fails_no e = rw e

    pub fails_yes : all (is_bound b) ts ≡ true → bindings (atom false p ts) table b scope at ≡ passed b
    unfolding bindings ask ◌>>=◌
    fails_yes e = rw e

  both_of : (x y : Term) → all (is_bound b) (x ∷ y ∷ []) ≡ (is_bound b x && is_bound b y)
  unfolding all
  both_of x y = ap (λ (c : Bool). is_bound b x && c) (sym (and-true (is_bound b y)))

  pub compare-no : (v : Bool) (d : ℤ) (x y : Term) → all (is_bound b) (x ∷ y ∷ []) ≡ false → bindings (compare v d x y) table b scope at ≡ refused Mode at
  unfolding bindings ask ◌>>=◌
  compare-no v d x y e = rw (sym (both_of x y) ∙ e)

  pub compare-yes : (v : Bool) (d : ℤ) (x y : Term) → all (is_bound b) (x ∷ y ∷ []) ≡ true → bindings (compare v d x y) table b scope at ≡ passed b
  unfolding bindings ask ◌>>=◌
  compare-yes v d x y e = rw (sym (both_of x y) ∙ e)

-- what comes of an atom: pn and nn are the predicate and the number of terms that were read
module _ (table words : Words) (marks : Marks) (at pn nn : ℕ)
    (read-p : pn ≡ value words (at + 1)) (read-n : nn ≡ value words (at + 2)) (holds : Bool) where
  -- the terms read are the atom's
  read-terms :
      (p : ℕ) (ts : List Term) (next : ℕ) →
      AtomWords words at next p ts →
      (pn ≡ p) × (terms_at words (at + 3) nn ≡ ts) × (at + 3 + 2 * nn ≡ next)
  read-terms p ts next w = (
    read-p ∙ w.predicate,
    ap (terms_at words (at + 3)) read-n ∙ w.terms,
    ap (λ (k : ℕ). at + 3 + 2 * k) read-n ∙ w.ends,
  )

  abbrev After : Result Bound Refused → Type 0
  After r =
      (p : ℕ) (ts : List Term) (scope next : ℕ) →
      AtomParts words scope at next p ts →
      Binds (atom holds p ts) table (set_of marks) scope at next r

  pub atom_inputs_no : holds ≡ true → inputs_bound table pn (set_of marks) 0 (terms_at words (at + 3) nn) ≡ false → After (Err (refused_at Mode at))
  atom_inputs_no h e p ts scope next a =
      let (ep, et, en) = read-terms p ts next (atom-words words scope at next p ts a) in
      record {
        outcome = sym (rw h (holds-no table (set_of marks) scope at p ts (rw (ep, et) at e)));
        stands = tt;
      }

  pub atom_inputs_yes :
      holds ≡ true →
      inputs_bound table pn (set_of marks) 0 (terms_at words (at + 3) nn) ≡ true →
      (set : Marks) →
      set_of set ≡ with_terms (set_of marks) (terms_at words (at + 3) nn) →
      After (Ok (record { set = set; next = at + 3 + 2 * nn }))
  atom_inputs_yes h e set s p ts scope next a =
      let (ep, et, en) = read-terms p ts next (atom-words words scope at next p ts a) in
      record {
        outcome = ap passed (s ∙ ap (with_terms (set_of marks)) et) ∙ sym (rw h (holds-yes table (set_of marks) scope at p ts (rw (ep, et) at e)));
        stands = en;
      }

  pub atom-all-no : holds ≡ false → all (is_bound (set_of marks)) (terms_at words (at + 3) nn) ≡ false → After (Err (refused_at Mode at))
  atom-all-no h e p ts scope next a =
      let (ep, et, en) = read-terms p ts next (atom-words words scope at next p ts a) in
      record {
        outcome = sym (rw h (fails_no table (set_of marks) scope at p ts (rw et at e)));
        stands = tt;
      }

  pub atom-all-yes : holds ≡ false → all (is_bound (set_of marks)) (terms_at words (at + 3) nn) ≡ true → After (Ok (record { set = marks; next = at + 3 + 2 * nn }))
  atom-all-yes h e p ts scope next a =
      let (ep, et, en) = read-terms p ts next (atom-words words scope at next p ts a) in
      record {
        outcome = sym (rw h (fails_yes table (set_of marks) scope at p ts (rw et at e)));
        stands = en;
      }

-- what comes of a comparison
module _ (words : Words) (marks : Marks) (at : ℕ) where
  abbrev AfterCompare : Result Bound Refused → Type 0
  AfterCompare r =
      (table : Words) (b : Bool) (d : ℤ) (x y : Term) (scope next : ℕ) →
      CompareParts words scope at next d x y →
      Binds (compare b d x y) table (set_of marks) scope at next r

  pub compare-all-no : all (is_bound (set_of marks)) (terms_at words (at + 2) 2) ≡ false → AfterCompare (Err (refused_at Mode at))
  compare-all-no e table b d x y scope next a =
      record {
        outcome = sym (compare-no table (set_of marks) scope at b d x y (rw (compare-words words scope at next d x y a) at e));
        stands = tt;
      }

  pub compare-all-yes : all (is_bound (set_of marks)) (terms_at words (at + 2) 2) ≡ true → AfterCompare (Ok (record { set = marks; next = at + 6 }))
  compare-all-yes e table b d x y scope next a =
      record {
        outcome = sym (compare-yes table (set_of marks) scope at b d x y (rw (compare-words words scope at next d x y a) at e));
        stands = sym a.ends;
      }

-- Terms are copied one after another: those that are left stand at the index reached, and their words are still to come.
use Prim.Native.Nat.{ℕ, ◌+◌, ◌*◌, ◌-◌, ◌≤◌, ◌<◌}
use native.Mathlib.Omega.{arith}
use mathlib.Core.Path.{◌≡◌, refl, ap, ◌∙◌, subst}
use mathlib.Core.List.{List, [], ◌∷◌, map}
use lib.ListN.{length, length-map}
use Rattle.model.specs.Words.{Words}
use Rattle.model.specs.Lists.{gather}
use Rattle.model.specs.Tree.{Term, encode_term}
use Rattle.model.specs.Putting.{put_term}
use Rattle.laws.specs.Words.Standing.{Stands, stands-left, stands-right}
use Rattle.laws.specs.Putting.Modes.{encode_term-length, terms-length}
use Rattle.words.specs.Laying.{laid}
use Rattle.words.proofs.LayingLaws.{Filled, fill_start, fill-room, fill-long, fill_more}
use Rattle.trees.specs.Own.{Terms}

-- the first of some terms, and the others
term-split :
    (words : Words) (from n : ℕ) (ts : List Term) →
    Terms words from n ts →
    0 < n →
    (t : Term) × (us : List Term) × (ts ≡ t ∷ us) × Stands words from (encode_term t) (from + 2) × Terms words (from + 2) (n - 1) us
unfolding gather
term-split words from n [] r h = absurd (omega (arith, r.number))
term-split words from n (t ∷ us) r h =
    let two = encode_term-length t in
    let end : from + 2 * n ≡ from + 2 + 2 * (n - 1) = omega arith in (
      t,
      us,
      refl,
      rw two at (stands-left words (encode_term t) (gather encode_term us) r.stands),
      record {
        number = omega (arith, r.number);
        stands = rw (two, end) at (stands-right words (encode_term t) (gather encode_term us) r.stands);
      },
    )

terms-same : (words : Words) (from from' n n' : ℕ) (ts : List Term) → from ≡ from' → n ≡ n' → Terms words from n ts → Terms words from' n' ts
terms-same words from from' n n' ts e f r =
    subst (λ (k : ℕ). Terms words from' k ts) f (subst (λ (k : ℕ). Terms words k n ts) e r)

-- no terms have no words
terms-none : (words : Words) (from n : ℕ) (ts : List Term) → Terms words from n ts → n ≤ 0 → ts ≡ []
terms-none words from n [] r h = refl
terms-none words from n (t ∷ ts) r h = absurd (omega (arith, r.number))

module _ (ρ words : Words) (from n : ℕ) (old : Words) (to : ℕ) where
  -- the words of terms with the numbers put in
  abbrev new : List Term → Words
  new ts = gather encode_term (map (put_term ρ) ts)

  new_long : (k m : ℕ) (ts : List Term) → Terms words k m ts → length (new ts) ≡ 2 * m
  new_long k m ts r = terms-length (map (put_term ρ) ts) ∙ omega (arith, length-map ts (put_term ρ), r.number)

  -- i terms are copied
  abbrev pub Termwise : (i : ℕ) (out : Words) → Type 0
  Termwise i out =
      (ts : List Term) →
      Terms words from n ts →
      (rest : List Term) × Terms words (from + 2 * i) (n - i) rest × Filled old to (new ts) (new rest) (2 * i) out

  pub terms-start : to + 2 * n ≤ length old → Termwise 0 old
  terms-start h ts r =
      (ts, terms-same words from _ n _ ts (omega arith) (omega arith) r, fill_start old to (new ts) (omega (arith, new_long from n ts r)))

  module _ (i : ℕ) (out : Words) (w : Termwise i out) where
    -- the next term stands at the index reached, and there is room for it
    pub terms-next :
        i < n →
        (ts : List Term) × Terms words from n ts →
        ((t : Term) × Stands words (from + 2 * i) (encode_term t) (from + 2 * i + 2)) × (to + 2 * i + 2 ≤ length out)
    terms-next h (ts, r) =
        let (rest, here, fill) = w ts r in
        let (t, us, e, s, next) = term-split words _ _ rest here (omega arith) in (
          (t, s),
          omega (
            arith,
            fill-room old to (new ts) (new rest) (2 * i) out fill,
            fill-long old to (new ts) (new rest) (2 * i) out fill,
            new_long _ _ rest here,
          ),
        )

    pub terms-more :
        i < n →
        (after : Words) →
        ((t : Term) → Stands words (from + 2 * i) (encode_term t) (from + 2 * i + 2) → after ≡ laid out (to + 2 * i) (encode_term (put_term ρ t))) →
        Termwise (i + 1) after
    unfolding gather
    terms-more h after put ts r =
        let (rest, here, fill) = w ts r in
        let (t, us, e, s, next) = term-split words _ _ rest here (omega arith) in (
          us,
          terms-same words _ _ _ _ us (omega arith) (omega arith) next,
          fill_more old to (new ts) (new rest) (2 * i) out fill (encode_term (put_term ρ t)) (new us) (ap new e) (to + 2 * i) (2 * (i + 1)) after
              refl
              (omega (arith, encode_term-length (put_term ρ t)))
              (put t s),
        )

-- The true rows of a predicate along a chain that has all of them that can fit: what they make of an environment, row by row.
use Prim.Native.Nat.{ℕ, ◌+◌, ◌*◌, ◌-◌, ◌≤◌, ◌<◌}
use native.Mathlib.Omega.{arith}
use mathlib.Core.Path.{◌≡◌, refl, sym, ap, ap₂, ◌∙◌, subst}
use mathlib.Core.Bool.{true, false}
use mathlib.Core.List.{List, [], ◌∷◌, ◌++◌, append_assoc, append-nil}
use lib.ListN.{length, get_or, take, length-append}
use lib.IntN.{pos}
use Rattle.model.specs.Words.{Words, word, equal}
use Rattle.model.specs.Lists.{gather}
use Rattle.model.specs.Log.{row_count, row_at, rows, arguments}
use Rattle.model.specs.Tree.{Term}
use Rattle.model.specs.Listing.{Environment, fit, matches}
use Rattle.chains.specs.Chain.{chain, link, Chained}
use Rattle.chains.proofs.Chains.{First, walk_end, walk_step, link-small}
use Rattle.chains.proofs.Rows.{row_first}
use Rattle.environments.specs.Environment.{stored}
use Rattle.environments.specs.Listed.{Listed}
use Rattle.environments.proofs.ListedLaws.{listed-none, listed-stored, laid-front}
use Rattle.environments.proofs.Places.{place-length}
use Rattle.environments.specs.Environment.{place_of}
use Rattle.matching.specs.Ways.{found}
use Rattle.matching.specs.Rows.{Filled}

-- a walk along a chain of rows by some key that has come to a link: that of the rows from `from` on
pub record Walk (log : Words) (links : List ℕ) (keys k x : ℕ) : Type 0 where
  pub key : ℕ → ℕ
  pub chained : Chained key keys (row_count log) links
  pub from : ℕ
  pub linked : x ≡ link (row_count log) (chain key k from (row_count log))

module _ {log : Words} {links : List ℕ} {keys k x : ℕ} (w : Walk log links keys k x) (some : x ≡ 0 → ⊥) where
  abbrev here : ℕ
  here = row_count log - x

  -- the link is a row's
  pub first-row : First w.key k w.from (row_count log) here × (x ≤ row_count log)
  first-row = walk_step w.key k w.from (row_count log) x w.linked some

  -- it leads to the next row, and the next link is less
  pub next-link : get_or links (keys + here) 0 ≡ link (row_count log) (chain w.key k (here + 1) (row_count log))
  next-link =
      w.chained.nexts here first-row.0.inside
      ∙ ap (λ (j : ℕ). link (row_count log) (chain w.key j (here + 1) (row_count log))) first-row.0.same

  abbrev pub walk_on : Walk log links keys k (get_or links (keys + here) 0)
  walk_on = record { key = w.key; chained = w.chained; from = here + 1; linked = next-link }

  pub walk_less : get_or links (keys + here) 0 < x
  walk_less =
      let small = link-small w.key k (here + 1) (row_count log) (get_or links (keys + here) 0) next-link in
      let b = first-row.0.inside in
      let few = first-row.1 in
      omega arith

module _ (log : Words) (p : ℕ) (ts : List Term) (e : Environment) where
  -- what a row makes that may be another predicate's, by the test of its predicate
  pub found_here : (r : ℕ) → equal (word log (8 * r)) (pos p) ≡ true → found log p ts e r ≡ fit ts (arguments (row_at log r)) e
  unfolding found
  found_here r q = rw (row_first log r, q) refl

  pub found-not : (r : ℕ) → equal (word log (8 * r)) (pos p) ≡ false → found log p ts e r ≡ []
  unfolding found
  found-not r q = rw (row_first log r, q) refl

  -- along a chain, the rows before `from` made the environments that stand in the first places
  pub record SoFar (key : ℕ → ℕ) (k from base made : ℕ) (before scratch : Words) : Type 0 where
    pub done : List Environment
    pub split : matches (rows log) p ts e ≡ done ++ gather (found log p ts e) (chain key k from (row_count log))
    pub many : length done ≡ made
    pub listed : Listed scratch base done
    pub front : take (17 * base) scratch ≡ take (17 * base) before

  pub far_start :
      (key : ℕ → ℕ) (k : ℕ) →
      matches (rows log) p ts e ≡ gather (found log p ts e) (chain key k 0 (row_count log)) →
      (base : ℕ) (scratch : Words) →
      SoFar key k 0 base 0 scratch scratch
  far_start key k all base scratch = record { done = []; split = all; many = refl; listed = listed-none scratch base; front = refl }

module _
    {log : Words} {links : List ℕ} {keys k x : ℕ} (w : Walk log links keys k x)
    {p base made : ℕ} {ts : List Term} {e : Environment} {before scratch : Words}
    (s : SoFar log p ts e w.key k w.from base made before scratch)
  where
    -- the chain has ended
    pub far_end : x ≡ 0 → {left : ℕ} → made ≤ left → Filled (matches (rows log) p ts e) base left before scratch made
    unfolding gather
    far_end z {left} few =
        let all : matches (rows log) p ts e ≡ s.done =
        s.split
        ∙ ap (λ (l : List ℕ). s.done ++ gather (found log p ts e) l) (walk_end w.key k w.from (row_count log) x w.linked z)
        ∙ append-nil s.done in
        record {
          count = sym s.many ∙ ap length (sym all);
          few = few;
          listed = subst (Listed scratch base) (sym all) s.listed;
        }

    module _ (some : x ≡ 0 → ⊥) where
      abbrev row : ℕ
      row = row_count log - x

      -- the environments of this row come next
      next_row : matches (rows log) p ts e ≡ s.done ++ (found log p ts e row ++ gather (found log p ts e) (chain w.key k (row + 1) (row_count log)))
      unfolding gather
      next_row = s.split ∙ ap (λ (l : List ℕ). s.done ++ gather (found log p ts e) l) (first-row w some).0.rest

      -- none
      pub far_none : found log p ts e row ≡ [] → SoFar log p ts e w.key k (row + 1) base made before scratch
      far_none none = record {
        done = s.done;
        split = next_row ∙ ap (λ (l : List Environment). s.done ++ (l ++ gather (found log p ts e) (chain w.key k (row + 1) (row_count log)))) none;
        many = s.many;
        listed = s.listed;
        front = s.front;
      }

      -- one, for which there is a place
      pub far_one :
          (f : Environment) →
          found log p ts e row ≡ f ∷ [] →
          17 * (base + made) + 17 ≤ length scratch →
          {after : Words} → after ≡ stored scratch (base + made) f → SoFar log p ts e w.key k (row + 1) base (made + 1) before after
      far_one f one room {after} is = record {
        done = s.done ++ f ∷ [];
        split =
            next_row
            ∙ ap (λ (l : List Environment). s.done ++ (l ++ gather (found log p ts e) (chain w.key k (row + 1) (row_count log)))) one
            ∙ sym (append_assoc s.done (f ∷ []) (gather (found log p ts e) (chain w.key k (row + 1) (row_count log))));
        many = length-append s.done (f ∷ []) ∙ ap (λ (k : ℕ). k + 1) s.many;
        listed =
            subst (λ (ws : Words). Listed ws base (s.done ++ f ∷ [])) (ap (λ (k : ℕ). stored scratch (base + k) f) s.many ∙ sym is)
            (listed-stored scratch base s.done f (rw s.many room) s.listed);
        front =
            ap (take (17 * base)) is
            ∙ laid-front scratch (place_of f) (17 * (base + made)) 17 (place-length f) room (17 * base) (omega arith)
            ∙ s.front;
      }

      -- one, for which there is none
      pub far_short : (f : Environment) → found log p ts e row ≡ f ∷ [] → {left : ℕ} → left ≤ made → left < length (matches (rows log) p ts e)
      far_short f one {left} full =
          let all : length (matches (rows log) p ts e) ≡ made + (1 + length (gather (found log p ts e) (chain w.key k (row + 1) (row_count log)))) =
          ap length next_row
          ∙ length-append s.done _
          ∙ ap₂ (λ (a b : ℕ). a + b) s.many
          (length-append (found log p ts e row) _ ∙ ap (λ (l : List Environment). length l + length (gather (found log p ts e) (chain w.key k (row + 1) (row_count log)))) one) in
          omega arith

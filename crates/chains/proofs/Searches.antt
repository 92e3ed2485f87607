-- The search along a chain: a row of another key can't hold the atom, so that the first row of the chain that holds it is the
-- first of the whole log; and the search taken one row further.
use Prim.Native.Nat.{ℕ, ◌+◌, ◌*◌, ◌-◌, ◌≤◌, ◌<◌}
use native.Mathlib.Nat.{sub-zero}
use native.Mathlib.Omega.{arith}
use mathlib.Core.Path.{◌≡◌, refl, sym, ap, ◌∙◌}
use mathlib.Core.Bool.{Bool, true, false, cond}
use mathlib.Core.List.{List, [], ◌∷◌, Memᴰ}
use lib.ListN.{length, get_or}
use lib.IntN.{ℤ}
use lib.Dec.{eqb}
use borrow.Author.Tests.{eq-eqb}
use Rattle.model.specs.Words.{Words}
use Rattle.model.specs.Lists.{span, keep}
use Rattle.model.specs.Log.{row_at, holds}
use Rattle.laws.specs.Words.Tests.{clash}
use Rattle.laws.specs.Lists.Span.{span_mem}
use Rattle.std.specs.Prelude.{Some, None}
use Rattle.chains.specs.Search.{first_row}
use Rattle.chains.specs.Chain.{chain, link, Chained}
use Rattle.chains.specs.Key.{atom_key, row_key}
use Rattle.chains.proofs.Chains.{First, walk_end, walk_step, link-small}
use Rattle.chains.proofs.Keys.{same_key}

module _ (log : Words) (p : ℕ) (ns : List ℤ) where
  -- rows that can't hold the atom may be left out of a search
  first-kept :
      (test : ℕ → Bool) (rs : List ℕ) →
      ((r : ℕ) → Memᴰ r rs → holds p ns (row_at log r) ≡ true → test r ≡ true) →
      first_row log p ns rs ≡ first_row log p ns (keep test rs)
  unfolding first_row keep
  first-kept test [] h = refl
  first-kept test (r ∷ rs) h =
      go (holds p ns (row_at log r)) (test r) (h r (Memᴰ.head refl)) refl
      (first-kept test rs (λ q m. h q (Memᴰ.tail m)))
    where
      go :
          (a b : Bool) → (a ≡ true → b ≡ true) → a ≡ holds p ns (row_at log r) →
          first_row log p ns rs ≡ first_row log p ns (keep test rs) →
          cond a (Some r) (first_row log p ns rs) ≡ first_row log p ns (cond b (r ∷ keep test rs) (keep test rs))
      go true true t e ih = rw (sym e)
      go true false t e ih = clash (t refl) refl
      go false true t e ih = rw (sym e) ih
      go false false t e ih = ih

  -- the search through a log is the search through the chain of the atom's key
  pub first-chain :
      length ns ≡ 6 →
      (rows : ℕ) →
      8 * rows ≤ length log →
      first_row log p ns (span 0 rows) ≡ first_row log p ns (chain (row_key log) (atom_key p ns 0) 0 rows)
  unfolding chain
  first-chain six rows within =
      first-kept (λ r. eqb (row_key log r) (atom_key p ns 0)) (span 0 rows)
      (λ r m h. let b = span_mem 0 rows m in eq-eqb _ _ (same_key log p ns r (omega arith) six h))
      ∙ ap (λ (n : ℕ). first_row log p ns (keep (λ r. eqb (row_key log r) (atom_key p ns 0)) (span 0 n))) (sym (sub-zero rows))

  -- a search that has come to row `from`: the link that it holds, and what is left to be searched
  pub record Searching (k rows from x : ℕ) : Type 0 where
    pub linked : x ≡ link rows (chain (row_key log) k from rows)
    pub left : first_row log p ns (span 0 rows) ≡ first_row log p ns (chain (row_key log) k from rows)

module _ {log : Words} {p : ℕ} {ns : List ℤ} {k rows from x : ℕ} (s : Searching log p ns k rows from x) where
  -- no link: the chain has ended
  pub search_none : x ≡ 0 → None ≡ first_row log p ns (span 0 rows)
  unfolding first_row
  search_none z = sym (s.left ∙ ap (first_row log p ns) (walk_end (row_key log) k from rows x s.linked z))

  module _ (some : x ≡ 0 → ⊥) where
    -- the link is a row's
    pub search_row : First (row_key log) k from rows (rows - x) × (x ≤ rows)
    search_row = walk_step (row_key log) k from rows x s.linked some

    -- it holds the atom, or the search goes on behind it
    pub search_found : holds p ns (row_at log (rows - x)) ≡ true → Some (rows - x) ≡ first_row log p ns (span 0 rows)
    unfolding first_row
    search_found h = sym (s.left ∙ ap (first_row log p ns) search_row.0.rest ∙ rw h)

    -- a row that holds the atom and is the first of the key is the row found
    pub search_first : (row : ℕ) → rows - x ≡ row → holds p ns (row_at log row) ≡ true → Some row ≡ first_row log p ns (span 0 rows)
    search_first row e h =
        ap Some (sym e) ∙ search_found (ap (λ (r : ℕ). holds p ns (row_at log r)) e ∙ h)

    module _ {links : List ℕ} {keys y : ℕ} (c : Chained (row_key log) keys rows links) (e : y ≡ get_or links (keys + (rows - x)) 0) where
      next-link : y ≡ link rows (chain (row_key log) k (rows - x + 1) rows)
      next-link =
          e
          ∙ c.nexts (rows - x) search_row.0.inside
          ∙ ap (λ (j : ℕ). link rows (chain (row_key log) j (rows - x + 1) rows)) search_row.0.same

      pub search_next : holds p ns (row_at log (rows - x)) ≡ false → Searching log p ns k rows (rows - x + 1) y
      unfolding first_row
      search_next h = record {
        linked = next-link;
        left = s.left ∙ ap (first_row log p ns) search_row.0.rest ∙ rw h;
      }

      pub search_less : y < x
      search_less =
          let small = link-small (row_key log) k (rows - x + 1) rows y next-link in
          let b = search_row.0.inside in
          let w = search_row.1 in
          omega arith

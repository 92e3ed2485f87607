-- Chains of rows by a key: the first row of a chain and the rest, by induction on the rows left; and one step of filling.
use Prim.Native.Nat.{ℕ, zero, suc, ◌+◌, ◌-◌, ◌≤◌, ◌<◌}
use native.Mathlib.Omega.{arith}
use mathlib.Core.Path.{◌≡◌, refl, sym, ap, ap₂, ◌∙◌, subst}
use mathlib.Core.Logic.{◌⊎◌, inl, inr, ⊎_elim}
use mathlib.Core.List.{List, [], ◌∷◌}
use lib.ListN.{length, get_or, set, length-set}
use lib.Seq.{get_or-set_same, get_or-set_other}
use lib.Dec.{eqb}
use borrow.Author.Tests.{eqb-true, eqb-false, eq-eqb, ne_eqb}
use Rattle.model.specs.Lists.{keep}
use Rattle.laws.specs.Words.Tests.{decide}
use Rattle.laws.specs.Lists.Span.{side, span-step, span_end}
use Rattle.chains.specs.Chain.{chain, link, Chained, Empty}

module _ (key : ℕ → ℕ) (k i rows : ℕ) where
  -- row i is of the key, or not, or there is no row i
  pub chain-here : i < rows → key i ≡ k → chain key k i rows ≡ i ∷ chain key k (i + 1) rows
  unfolding chain keep
  chain-here h e = rw (span-step i rows h) (rw (eq-eqb (key i) k e) refl)

  pub chain_past : i < rows → (key i ≡ k → ⊥) → chain key k i rows ≡ chain key k (i + 1) rows
  unfolding chain keep
  chain_past h e = rw (span-step i rows h) (rw (ne_eqb (key i) k e) refl)

  pub chain_end : rows ≤ i → chain key k i rows ≡ []
  unfolding chain keep
  chain_end h = rw (span_end i rows h)

-- the first row of the key from row i on, with the rest of the chain behind it
pub record First (key : ℕ → ℕ) (k i rows r : ℕ) : Type 0 where
  pub behind : i ≤ r
  pub inside : r < rows
  pub same : key r ≡ k
  pub rest : chain key k i rows ≡ r ∷ chain key k (r + 1) rows

-- there is none, or one
chain_first_of : (key : ℕ → ℕ) (k rows n i : ℕ) → rows - i ≡ n → (chain key k i rows ≡ []) ⊎ ((r : ℕ) × First key k i rows r)
chain_first_of key k rows zero i e = inl (chain_end key k i rows (omega arith))
chain_first_of key k rows (suc n) i e =
    let h : i < rows = omega arith in
    let less : rows - (i + 1) ≡ n = omega arith in
    ⊎_elim
    (λ q. inr (i, record { behind = omega arith; inside = h; same = eqb-true _ _ q; rest = chain-here key k i rows h (eqb-true _ _ q) }))
    (λ q.
    let past = chain_past key k i rows h (eqb-false _ _ q) in
    ⊎_elim
    (λ none. inl (past ∙ none))
    (λ one.
    let r = one.0 in
    let f : First key k (i + 1) rows r = one.1 in
    let b : i + 1 ≤ r = f.behind in
    inr (r, record { behind = omega arith; inside = f.inside; same = f.same; rest = past ∙ f.rest }))
    (chain_first_of key k rows n (i + 1) less))
    (decide (eqb (key i) k))

pub chain_first : (key : ℕ → ℕ) (k i rows : ℕ) → (chain key k i rows ≡ []) ⊎ ((r : ℕ) × First key k i rows r)
chain_first key k i rows = chain_first_of key k rows (rows - i) i refl

-- a link tells the first row of a chain
pub link-none : (rows : ℕ) {l : List ℕ} → l ≡ [] → link rows l ≡ 0
unfolding link
link-none rows e = ap (link rows) e

pub link-some : (rows : ℕ) {l : List ℕ} (r : ℕ) (rs : List ℕ) → l ≡ r ∷ rs → link rows l ≡ rows - r
unfolding link
link-some rows r rs e = ap (link rows) e

module _ (key : ℕ → ℕ) (k i rows x : ℕ) (e : x ≡ link rows (chain key k i rows)) where
  pub walk_end : x ≡ 0 → chain key k i rows ≡ []
  walk_end z =
      ⊎_elim
      (λ none. none)
      (λ one. let f : First key k i rows one.0 = one.1 in
      let l = link-some rows one.0 (chain key k (one.0 + 1) rows) f.rest in
      let b = f.inside in
      absurd (omega arith))
      (chain_first key k i rows)

  pub walk_step : (x ≡ 0 → ⊥) → First key k i rows (rows - x) × (x ≤ rows)
  walk_step n =
      ⊎_elim
      (λ none. absurd (n (e ∙ link-none rows none)))
      (λ one. let f : First key k i rows one.0 = one.1 in
      let l = link-some rows one.0 (chain key k (one.0 + 1) rows) f.rest in
      let b : one.0 < rows = f.inside in
      let same : one.0 ≡ rows - x = omega arith in
      (subst (First key k i rows) same f, omega arith))
      (chain_first key k i rows)

  pub link-small : x ≤ rows - i
  link-small =
      ⊎_elim
      (λ none. let z = link-none rows none in omega arith)
      (λ one. let f : First key k i rows one.0 = one.1 in
      let l = link-some rows one.0 (chain key k (one.0 + 1) rows) f.rest in
      let b = f.behind in
      omega arith)
      (chain_first key k i rows)

-- keys and links while they are filled: the rows from `from` on are linked, and their keys kept
pub record Filling (key : ℕ → ℕ) (heads rows from : ℕ) (keys links : List ℕ) : Type 0 where
  pub keys-long : rows ≤ length keys
  pub long : heads + rows ≤ length links
  pub kept : (r : ℕ) → from ≤ r → r < rows → get_or keys r 0 ≡ key r
  pub first : (k : ℕ) → k < heads → get_or links k 0 ≡ link rows (chain key k from rows)
  pub nexts : (r : ℕ) → from ≤ r → r < rows → get_or links (heads + r) 0 ≡ link rows (chain key (key r) (r + 1) rows)

module _ (key : ℕ → ℕ) (heads rows : ℕ) where
  -- at first no row is linked
  pub fill_start : (from : ℕ) (keys links : List ℕ) → rows ≤ from → rows ≤ length keys → Empty heads rows links → Filling key heads rows from keys links
  fill_start from keys links l room start = record {
    keys-long = room;
    long = start.within;
    kept = λ r h i. absurd (omega arith);
    first = λ k h. start.none k h ∙ sym (link-none rows (chain_end key k from rows l));
    nexts = λ r h i. absurd (omega arith);
  }

  -- at the end all are
  pub fill_end : (keys links : List ℕ) (from : ℕ) → from ≡ 0 → Filling key heads rows from keys links → Chained key heads rows links
  fill_end keys links from z f = record {
    within = f.long;
    heads = λ k h. f.first k h ∙ ap (λ (i : ℕ). link rows (chain key k i rows)) z;
    nexts = λ r h. f.nexts r (omega arith) h;
  }

  -- one row more: its key is below the number of heads
  module _
      (row from x k : ℕ) (keys links : List ℕ) (small : k < heads) (inside : row < rows) (next : from ≡ row + 1)
      (f : Filling key heads rows from keys links) (is : x ≡ rows - row) (found : k ≡ key row)
    where
      -- the keys with one more, and the links with one row more in front of its chain
      abbrev more-keys : List ℕ
      more-keys = set keys row k

      abbrev half : List ℕ
      half = set links (heads + row) (get_or links k 0)

      abbrev more : List ℕ
      more = set half k x

      -- what stands at the row, at its key, and elsewhere
      at_row : get_or more (heads + row) 0 ≡ get_or links k 0
      at_row =
          get_or-set_other half k (heads + row) x 0 (λ q. omega arith)
          ∙ get_or-set_same links (heads + row) (get_or links k 0) 0 (let l = f.long in omega arith)

      at_key : get_or more k 0 ≡ x
      at_key = get_or-set_same half k x 0 (let l = f.long in rw length-set (omega arith))

      elsewhere : (j : ℕ) → (k ≡ j → ⊥) → (heads + row ≡ j → ⊥) → get_or more j 0 ≡ get_or links j 0
      elsewhere j n m =
          get_or-set_other half k j x 0 (λ q. n (sym q))
          ∙ get_or-set_other links (heads + row) j (get_or links k 0) 0 (λ q. m (sym q))

      first_more : (j : ℕ) → j < heads → get_or more j 0 ≡ link rows (chain key j row rows)
      first_more j h =
          ⊎_elim
          (λ e.
          let same : k ≡ j = eqb-true _ _ e in
          ap (λ (i : ℕ). get_or more i 0) (sym same)
          ∙ at_key
          ∙ is
          ∙ sym (link-some rows row _ (chain-here key j row rows inside (sym found ∙ same))))
          (λ e.
          let other : k ≡ j → ⊥ = eqb-false _ _ e in
          elsewhere j other (λ q. omega arith)
          ∙ f.first j h
          ∙ ap (λ (i : ℕ). link rows (chain key j i rows)) next
          ∙ ap (link rows) (sym (chain_past key j row rows inside (λ q. other (found ∙ q)))))
          (decide (eqb k j))

      -- of the rows from this one on: this one, or a later one
      this_or_later : (P : ℕ → Type 0) (r : ℕ) → row ≤ r → P row → ((row ≡ r → ⊥) → from ≤ r → P r) → P r
      this_or_later P r l here later =
          ⊎_elim
          (λ e. subst P (eqb-true row r e) here)
          (λ e.
          let other : row ≡ r → ⊥ = eqb-false _ _ e in
          later other (⊎_elim (λ q. absurd (other (omega arith))) (λ q. omega arith) (side (row + 1) r)))
          (decide (eqb row r))

      kept_more : (r : ℕ) → row ≤ r → r < rows → get_or more-keys r 0 ≡ key r
      kept_more r l h =
          this_or_later (λ q. get_or more-keys q 0 ≡ key q) r l
          (get_or-set_same keys row k 0 (let l = f.keys-long in omega arith) ∙ found)
          (λ other later. get_or-set_other keys row r k 0 (λ z. other (sym z)) ∙ f.kept r later h)

      next_more : (r : ℕ) → row ≤ r → r < rows → get_or more (heads + r) 0 ≡ link rows (chain key (key r) (r + 1) rows)
      next_more r l h =
          this_or_later (λ q. get_or more (heads + q) 0 ≡ link rows (chain key (key q) (q + 1) rows)) r l
          (at_row
          ∙ f.first k small
          ∙ ap₂ (λ (j i : ℕ). link rows (chain key j i rows)) found next)
          (λ other later.
          elsewhere (heads + r) (λ q. omega arith) (λ q. other (omega arith))
          ∙ f.nexts r later h)

      pub fill_step : Filling key heads rows row more-keys more
      fill_step = record {
        keys-long = simp length-set f.keys-long;
        long = simp length-set f.long;
        kept = kept_more;
        first = first_more;
        nexts = next_more;
      }

-- One log extends another, in the words of the specification, for two logs given as rows: any number of them, in any order, with any
-- whole numbers. An atom is as its row says; with no row it is false if its predicate is complete.
use Rattle.std.specs.Prelude.{ℕ, ◌≡◌, refl, ◌⊎◌, Bool, true, false, not, ◌&&◌, ◌||◌, length, ℤ}
use Rattle.std.proofs.Common.{sym, ap, ◌∙◌, ⊎_elim}
use mathlib.Core.List.Memᴰ
use mathlib.Core.List.{List, [], ◌∷◌, Memᴰ}
use Rattle.std.proofs.lemmas.Bool.{not-true}
use Rattle.model.specs.Words.{Words, value, member}
use Rattle.model.specs.Lists.{all}
use Rattle.model.specs.Table.{arity, complete}
use Rattle.model.specs.Log.{known, says_true, holds, value_in}
use Rattle.model.specs.Truth.{GroundAtom, Extends}
use Rattle.laws.specs.Words.Tests.{decide, clash, or_cases, and-true, member-true}
use Rattle.laws.specs.Lists.Membership.{all_mem}
use Rattle.laws.specs.Log.{Sound, known_same, no_row, holds-value, value_of_row, row_of_value}
use Rattle.laws.specs.Listing.Outer.{complete-known}

-- what rows say of an atom
pub data Says (table : Words) (rows : List Words) (p : ℕ) (ns : List ℤ) (b : Bool) : Type 0 where
  by_row : (row : Words) → Memᴰ row rows → holds p ns row ≡ true → says_true row ≡ b → Says table rows p ns b
  by_completeness :
      ((row : Words) → Memᴰ row rows → holds p ns row ≡ false) →
      complete table p ≡ true →
      b ≡ false →
      Says table rows p ns b

-- a value that is known is what the rows say
value_says :
    (table : Words) (rows : List Words) (p : ℕ) (ns : List ℤ) (b : Bool) →
    value_in table rows p ns ≡ known b →
    Says table rows p ns b
unfolding value_in
value_says table [] p ns b e =
    let (c, q) = no_row (complete table p) b e in by_completeness (λ row m. absurd (Memᴰ.not-nil m)) c q
value_says table (row ∷ rest) p ns b e =
    ⊎_elim
    (λ h. by_row row (Memᴰ.head refl) h (known_same (rw h at e)))
    (λ h. later h (value_says table rest p ns b (rw h at e)))
    (decide (holds p ns row))
  where
    later : holds p ns row ≡ false → Says table rest p ns b → Says table (row ∷ rest) p ns b
    later h (by_row r m k q) = by_row r (Memᴰ.tail m) k q
    later h (by_completeness none c q) =
        by_completeness (λ r m. ⊎_elim (λ i. ap (holds p ns) i ∙ h) (none r) (Memᴰ.cases_cons m)) c q

-- with no row an atom of a complete predicate is false
value_none :
    (table : Words) (rows : List Words) (p : ℕ) (ns : List ℤ) →
    ((row : Words) → Memᴰ row rows → holds p ns row ≡ false) →
    complete table p ≡ true →
    value_in table rows p ns ≡ known false
unfolding value_in
value_none table [] p ns none c = rw c
value_none table (row ∷ rest) p ns none c =
    rw (none row (Memᴰ.head refl)) (value_none table rest p ns (λ r m. none r (Memᴰ.tail m)) c)

-- and what rows that agree say is the value
says_value :
    (table : Words) (rows : List Words) (p : ℕ) (ns : List ℤ) (b : Bool) →
    Sound table rows →
    length ns ≡ arity table p →
    Says table rows p ns b →
    value_in table rows p ns ≡ known b
says_value table rows p ns b sound a (by_row row m h q) = value_of_row table rows p ns sound a m h ∙ ap known q
says_value table rows p ns b sound a (by_completeness none c q) = value_none table rows p ns none c ∙ ap known (sym q)

-- one log extends another if what the rows of the first say of a ground atom, those of the second say too
pub logs_extend :
    (table : Words) (rows larger : List Words) →
    Sound table larger →
    ((p : ℕ) (ns : List ℤ) → GroundAtom table p ns → (b : Bool) → Says table rows p ns b → Says table larger p ns b) →
    Extends table (value_in table rows) (value_in table larger)
unfolding Extends
logs_extend table rows larger sound h p ns is_ground b e =
    says_value table larger p ns b sound is_ground.1 (h p ns is_ground b (value_says table rows p ns b e))

-- and only then
pub extend_logs :
    (table : Words) (rows larger : List Words) →
    Sound table rows →
    Extends table (value_in table rows) (value_in table larger) →
    (p : ℕ) (ns : List ℤ) →
    GroundAtom table p ns →
    (b : Bool) →
    Says table rows p ns b →
    Says table larger p ns b
unfolding Extends
extend_logs table rows larger sound h p ns is_ground b s =
    value_says table larger p ns b (h p ns is_ground b (says_value table rows p ns b sound is_ground.1 s))

-- rows that have all rows of a log, wherever they stand, and otherwise none that makes true an atom of a complete predicate, extend it
pub rows_extend :
    (table : Words) (rows larger : List Words) →
    Sound table larger →
    all (λ row. member row larger) rows ≡ true →
    all (λ row. member row rows || not (says_true row && complete table (value row 0))) larger ≡ true →
    Extends table (value_in table rows) (value_in table larger)
rows_extend table rows larger sound inside others = logs_extend table rows larger sound go
  where
    go : (p : ℕ) (ns : List ℤ) → GroundAtom table p ns → (b : Bool) → Says table rows p ns b → Says table larger p ns b
    go p ns is_ground b (by_row row m h q) = by_row row (member-true row larger (all_mem _ inside m)) h q
    go p ns is_ground b (by_completeness none c q) =
        let (v, e) = complete-known table larger p ns c in still v e
      where
        -- a row that says true stands in the log, where none holds the atom, or is of no complete predicate
        refuted : (row : Words) → Memᴰ row larger → holds p ns row ≡ true → says_true row ≡ true → ⊥
        refuted row m h t =
            ⊎_elim
            (λ i. clash h (none row (member-true row rows i)))
            (λ i. clash (and-true t (ap (complete table) (holds-value p ns row h) ∙ c)) (not-true _ i))
            (or_cases (member row rows) _ (all_mem _ others m))

        still : (v : Bool) → value_in table larger p ns ≡ known v → Says table larger p ns b
        still false e = rw q (value_says table larger p ns false e)
        still true e = let (row, m, h, t) = row_of_value table larger p ns e in absurd (refuted row m h t)

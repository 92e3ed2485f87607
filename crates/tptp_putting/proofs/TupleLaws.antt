-- Laws for the writing of excluded tuples one behind another.
use Prim.Native.Nat.{ℕ, ◌+◌, ◌-◌, ◌≤◌, ◌<◌}
use native.Mathlib.Omega.{arith}
use mathlib.Core.Path.{◌≡◌, refl, sym, ap, ◌∙◌}
use mathlib.Core.List.{List, [], ◌∷◌, ◌++◌}
use lib.ListN.{length, take, drop, length-append, length-drop}
use lib.Seq.{drop-append_seam, take-append_seam}
use lib.IntN.{ℤ}
use Rattle.std.proofs.Common.{drop-drop}
use Rattle.model.specs.Lists.{gather}
use Rattle.model.specs.Bytes.{bytes}
use Rattle.laws.specs.Reading.Formed.{AllOfLength}
use Rattle.text.specs.declared.writer.Writer.{Writer}
use Rattle.text.specs.Adds.{Adds}
use Rattle.text.proofs.PutLaws.{Left, left-none, left_more, left_end}
use Rattle.tptp_putting.specs.Texts.{tuple_text, tuples_text, closed_text, Tuples}

-- the tuple at an index, as it is lent, and those behind it
abbrev pub lent_tuple : (numbers : List ℤ) (from v : ℕ) → List ℤ
lent_tuple numbers from v = take (from + v - from) (drop from numbers)

pub record First (numbers : List ℤ) (v scope from : ℕ) (list : List (List ℤ)) : Type 0 where
  pub inside : from + v ≤ length numbers
  pub others : Tuples (drop (from + v) numbers) v
  pub long : length (lent_tuple numbers from v) ≡ v
  pub split : tuples_text scope list ≡ tuple_text scope (lent_tuple numbers from v) ++ tuples_text scope others.list

module _ (numbers : List ℤ) (v scope from : ℕ) where
  pub first-tuple : (t : Tuples (drop from numbers) v) → from < length numbers → First numbers v scope from t.list
  unfolding tuples_text gather AllOfLength
  first-tuple t h = go t.list t.are t.long
    where
      go :
          (list : List (List ℤ)) → drop from numbers ≡ gather (λ tuple. tuple) list → AllOfLength v list →
          First numbers v scope from list
      go [] e l = absurd (omega (arith, ap length e, length-drop from numbers))
      go (τ ∷ τs) e l =
          let rest = gather (λ (tuple : List ℤ). tuple) τs in
          let count : from + v - from ≡ length τ = omega (arith, l.0) in
          let here : lent_tuple numbers from v ≡ τ = rw (count, e, take-append_seam) in
          record {
            inside = omega (arith, ap length e, length-drop from numbers, length-append τ rest, l.0);
            others = record { list = τs; are = rw (← l.0, ← drop-drop, e, drop-append_seam); long = l.1 };
            long = ap length here ∙ l.0;
            split = ap (λ (tuple : List ℤ). tuple_text scope tuple ++ tuples_text scope τs) (sym here);
          }

  -- none is left
  pub tuples-none : (t : Tuples (drop from numbers) v) → length numbers ≤ from → 1 ≤ v → tuples_text scope t.list ≡ []
  unfolding tuples_text gather AllOfLength
  tuples-none t h k = go t.list t.are t.long
    where
      go :
          (list : List (List ℤ)) → drop from numbers ≡ gather (λ tuple. tuple) list → AllOfLength v list →
          tuples_text scope list ≡ []
      go [] e l = refl
      go (τ ∷ τs) e l =
          absurd
          (omega (arith, ap length e, length-drop from numbers, length-append τ (gather (λ (tuple : List ℤ). tuple) τs), l.0))

module _ (numbers : List ℤ) (v scope : ℕ) (t : Tuples numbers v) where
  pub closed_none : length numbers ≡ 0 → 1 ≤ v → closed_text scope t.list ≡ []
  unfolding closed_text gather AllOfLength
  closed_none h k = go t.list t.are t.long
    where
      go :
          (list : List (List ℤ)) → numbers ≡ gather (λ tuple. tuple) list → AllOfLength v list → closed_text scope list ≡ []
      go [] e l = refl
      go (τ ∷ τs) e l =
          absurd (omega (arith, ap length e, length-append τ (gather (λ (tuple : List ℤ). tuple) τs), l.0))

  pub closed_some : (length numbers ≡ 0 → ⊥) → closed_text scope t.list ≡ tuples_text scope t.list ++ bytes ")"
  unfolding closed_text gather
  closed_some h = go t.list t.are
    where
      go :
          (list : List (List ℤ)) → numbers ≡ gather (λ tuple. tuple) list →
          closed_text scope list ≡ tuples_text scope list ++ bytes ")"
      go [] e = absurd (h (ap length e))
      go (τ ∷ τs) e = refl

  -- the tuples stand up to an index
  pub record Each (from : ℕ) (w w' : Writer) : Type 0 where
    pub rest : Tuples (drop from numbers) v
    pub left : Left (tuples_text scope t.list) (tuples_text scope rest.list) w w'

  pub each_none : (w : Writer) → Each 0 w w
  each_none w = record { rest = t; left = left-none (tuples_text scope t.list) w }

  module _ {from : ℕ} {w w' : Writer} (e : Each from w w') where
    pub each_more :
        from < length numbers → {w″ : Writer} → Adds (tuple_text scope (lent_tuple numbers from v)) w' w″ → Each (from + v) w w″
    each_more h k =
        let f = first-tuple numbers v scope from e.rest h in
        record { rest = f.others; left = left_more e.left _ _ f.split k }

    pub each_all : length numbers ≤ from → 1 ≤ v → Adds (tuples_text scope t.list) w w'
    each_all h k = left_end e.left (tuples-none numbers v scope from e.rest h k)

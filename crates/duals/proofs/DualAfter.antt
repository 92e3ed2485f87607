-- The words of a node that its dual keeps, passed: its own, and its restriction's if there is one below it.
use Prim.Native.Nat.{ℕ, suc, ◌+◌, ◌-◌, ◌≤◌}
use native.Mathlib.Omega.{arith}
use mathlib.Core.Path.{◌≡◌, refl, sym, ap, ◌∙◌, subst}
use mathlib.Core.Logic.{◌⊎◌, ⊎_elim}
use mathlib.Core.Bool.{Bool, true, false, cond, true≢false, false≢true}
use mathlib.Core.List.{List}
use lib.ListN.{length, length-append}
use Rattle.model.specs.Words.{Words, word}
use Rattle.model.specs.Lists.{gather}
use Rattle.model.specs.Tag as T
use Rattle.model.specs.Tree.{Tree, Trees, plain, atom, compare, join, quantifier, some, nil, cons, encode}
use lib.IntN.{ℤ}
use Rattle.laws.specs.Reading.Parts.{root}
use Rattle.policies.specs.Node.{as_tag}
use Rattle.policies.specs.declared.node.Tag.{Tag}
use Rattle.policies.specs.declared.node.Tag.TheVariants.{Plain, Atom, Compare, Join, Quantifier, Some, Unused}
use Rattle.trees.specs.declared.walk.Walk.{Walk}
use Rattle.trees.specs.Grown.{Grown, Tree-at, below}
use Rattle.trees.specs.Own.{mine}
use Rattle.trees.specs.Walk.{Row, Ahead, Passed}
use Rattle.trees.proofs.Ahead.{ahead_tree}
use Rattle.trees.proofs.Rows.{row_first, row_one, row-children, glue, children, tree_tag, tree-own}
use Rattle.duals.specs.Dual.{kept, formulas, PastKept}

-- the tags of the nodes that have a restriction below them
unfoldable pub restricts : T.Tag → Bool
restricts (T.Tag.plain b) = false
restricts (T.Tag.atom b) = false
restricts (T.Tag.compare b) = false
restricts (T.Tag.join b) = false
restricts (T.Tag.quantifier b) = true
restricts T.Tag.some = true
restricts T.Tag.unused = false

-- as the code tells them
pub restricts-some : (tag : Tag) → ((b : Bool) × (tag ≡ Quantifier b)) ⊎ (tag ≡ Some) → restricts (as_tag tag) ≡ true
unfolding restricts
restricts-some tag =
    ⊎_elim (λ (b, e). ap (λ (k : Tag). restricts (as_tag k)) e) (λ e. ap (λ (k : Tag). restricts (as_tag k)) e)

pub restricts-none : (tag : Tag) → ((b : Bool) → tag ≡ Quantifier b → ⊥) → (tag ≡ Some → ⊥) → restricts (as_tag tag) ≡ false
unfolding restricts
restricts-none (Plain b) k l = refl
restricts-none (Atom b) k l = refl
restricts-none (Compare b) k l = refl
restricts-none (Join b) k l = refl
restricts-none (Quantifier b) k l = absurd (k b refl)
restricts-none Some k l = absurd (l refl)
restricts-none Unused k l = refl

-- of the trees below a node all are formulas but the restriction
formulas-below : (words : Words) (tag : T.Tag) (at : ℕ) → below words tag at ≡ cond (restricts tag) 1 0 + formulas words tag at
unfolding restricts below formulas
formulas-below words (T.Tag.plain b) at = refl
formulas-below words (T.Tag.atom b) at = refl
formulas-below words (T.Tag.compare b) at = refl
formulas-below words (T.Tag.join b) at = omega arith
formulas-below words (T.Tag.quantifier b) at = refl
formulas-below words T.Tag.some at = refl
formulas-below words T.Tag.unused at = refl

-- the words kept of a node without one are its own
own-kept : (t : Tree) → restricts (root t) ≡ false → kept t ≡ mine t
unfolding restricts root kept mine
own-kept (plain b) e = refl
own-kept (atom b p ts) e = refl
own-kept (compare b d x y) e = refl
own-kept (join b ts) e = refl
own-kept (quantifier b v excluded c f) e = absurd (true≢false e)
own-kept (some c) e = absurd (true≢false e)

-- and else those of its restriction too, which stands behind its own
first-below :
    (words : Words) (at next : ℕ) (t c : Tree) (others : Trees) → Grown words at t next → children t ≡ cons c others →
    suc (length (mine t)) + length (encode c) ≡ suc (length (kept t)) →
    Grown words (at + suc (length (mine t))) c (at + suc (length (kept t)))
unfolding glue
first-below words at next t c others g is long =
    let from = at + suc (length (mine t)) in
    let row : Row words from (cons c (glue others nil)) next
    = subst (λ (ts : Trees). Row words from (glue ts nil) next) is (row-children words at next t nil (row_one words at next t g)) in
    let end : from + length (encode c) ≡ at + suc (length (kept t)) = omega (arith, long) in
    subst (λ (n : ℕ). Grown words from c n) end (row_first words from next c (glue others nil) row)

restricted :
    (words : Words) (at next : ℕ) (t : Tree) → Grown words at t next → restricts (root t) ≡ true →
    (c : Tree) × Grown words (at + suc (length (mine t))) c (at + suc (length (kept t)))
unfolding restricts root children mine kept
restricted words at next (plain b) g e = absurd (false≢true e)
restricted words at next (atom b p ts) g e = absurd (false≢true e)
restricted words at next (compare b d x y) g e = absurd (false≢true e)
restricted words at next (join b ts) g e = absurd (false≢true e)
restricted words at next (quantifier b v excluded c f) g e = (
  c,
  first-below words at next (quantifier b v excluded c f) c (cons f nil) g refl
      (omega (arith, length-append (gather (λ (tuple : List ℤ). tuple) excluded) (encode c))),
)
restricted words at next (some c) g e = (c, first-below words at next (some c) c nil g refl (omega arith))

module _ (words : Words) (walk : Walk) (tag : T.Tag) (told : tag ≡ T.tag_of (word words walk.at)) (behind : Walk) (step : Passed words tag walk behind) where
  behind-own : (t : Tree) (next : ℕ) → Grown words walk.at t next → behind.at ≡ walk.at + suc (length (mine t))
  behind-own t next g = step.at ∙ ap (λ (n : ℕ). walk.at + n) (tree-own words walk.at next t g tag told step.own step.size)

  -- no restriction
  pub kept-own : restricts tag ≡ false → PastKept words tag walk behind
  kept-own e =
      record {
        at = λ t next g.
            behind-own t next g
            ∙ ap (λ (l : Words). walk.at + suc (length l)) (sym (own-kept t (sym (ap restricts (told ∙ tree_tag words walk.at next t g)) ∙ e)));
        left =
            step.left
            ∙ ap (λ (n : ℕ). walk.left - 1 + n)
            (formulas-below words tag walk.at ∙ ap (λ (b : Bool). cond b 1 0 + formulas words tag walk.at) e ∙ omega arith);
      }

  -- a restriction, which is passed too
  module _ (e : restricts tag ≡ true) where
    restriction-behind :
        (t : Tree) (next : ℕ) → Grown words walk.at t next → (c : Tree) × Grown words behind.at c (walk.at + suc (length (kept t)))
    restriction-behind t next g =
        let (c, h) = restricted words walk.at next t g (sym (ap restricts (told ∙ tree_tag words walk.at next t g)) ∙ e) in
        (c, subst (λ (n : ℕ). Grown words n c (walk.at + suc (length (kept t)))) (sym (behind-own t next g)) h)

    pub restriction-there : (end : ℕ) × Ahead words walk.at walk.left end → Tree-at words behind.at
    restriction-there (end, a) =
        let (c, h) = restriction-behind a.first _ (ahead_tree words walk.at walk.left end a) in (c, _, h)

    left-is : behind.left ≡ walk.left - 1 + (1 + formulas words tag walk.at)
    left-is =
        step.left
        ∙ ap (λ (n : ℕ). walk.left - 1 + n)
        (formulas-below words tag walk.at ∙ ap (λ (b : Bool). cond b 1 0 + formulas words tag walk.at) e)

    pub some-left : 1 ≤ behind.left
    some-left = omega (arith, left-is)

    pub kept-restriction :
        (r : ℕ) → ((tree : Tree) (next : ℕ) → Grown words behind.at tree next → r ≡ next) →
        PastKept words tag walk (record { at = r; left = behind.left - 1 })
    kept-restriction r f =
        record {
          at = λ t next g. let (c, h) = restriction-behind t next g in f c _ h;
          left = omega (arith, left-is);
        }

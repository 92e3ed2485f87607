-- The tags of formulas change, node by node: in front of the index reached stand words of the dual, from it on the old
-- words, and the trees that stand there are the formulas still to be changed.
use Prim.Native.Nat.{ℕ, suc, ◌+◌, ◌≤◌, ◌<◌}
use native.Mathlib.Omega.{arith}
use mathlib.Core.Path.{◌≡◌, refl, sym, ap, ◌∙◌, subst}
use mathlib.Core.List.{[], ◌∷◌, ◌++◌, append_assoc, append-nil}
use lib.ListN.{length, drop, set, length-append, drop_of_length-le}
use lib.Seq.{set_at, drop-append_seam}
use lib.IntN.{ℤ, pos}
use Rattle.model.specs.Words.{Words, word}
use Rattle.model.specs.Tag.{Tag, tag_of}
use Rattle.model.specs.Tree.{Tree, Trees, nil, cons, count, encode, encode_all}
use Rattle.model.specs.Dual.{dual, dual_all}
use Rattle.laws.specs.Words.Standing.{Stands, stands-whole, code}
use Rattle.laws.specs.Reading.Parts.{root}
use Rattle.trees.specs.Grown.{Tupled}
use Rattle.trees.specs.declared.walk.Walk.{Walk}
use Rattle.trees.specs.Walk.{Row, Ahead}
use Rattle.trees.proofs.Rows.{row_one, row-none, row-few, glue, glue_words, glue_count}
use Rattle.trees.proofs.Ahead.{ahead, ahead_is, ahead_tree, ahead_tag, ahead_word}
use Rattle.duals.specs.Dual.{kept, formulas, paired, PastKept}
use Rattle.duals.proofs.DualTrees.{row-inner, row_kept, glue_dual, inner, dual-words, tree-formulas}

pub record Halfway (words tail : Words) (tree : Tree) (walk : Walk) (buffer : Words) : Type 0 where
  pub done : Words
  pub rest : Trees
  pub row : Row words walk.at rest (length words)
  pub number : count rest ≡ walk.left
  pub reached : length done ≡ walk.at
  pub is : buffer ≡ done ++ (drop walk.at words ++ tail)
  pub duals : encode (dual tree) ≡ done ++ encode_all (dual_all rest)

-- the words of a tree
abbrev pub Written : (words : Words) → Type 0
Written words = (tree : Tree) × Tupled tree × (encode tree ≡ words)

abbrev pub Swapping : (words tail : Words) (walk : Walk) (buffer : Words) → Type 0
Swapping words tail walk buffer = (tree : Tree) → Tupled tree → encode tree ≡ words → Halfway words tail tree walk buffer

-- the buffer is no shorter than the words at its front
pub front_long : (words tail buffer : Words) → buffer ≡ words ++ tail → length words ≤ length buffer
front_long words tail buffer e = omega (arith, ap length e, length-append words tail)

pub swap_start : (words tail buffer : Words) → buffer ≡ words ++ tail → (walk : Walk) → walk ≡ record { at = 0; left = 1 } → Swapping words tail walk buffer
unfolding count encode dual
swap_start words tail buffer e walk new = subst (λ (w : Walk). Swapping words tail w buffer) (sym new) (λ tree h w.
    record {
      done = [];
      rest = cons tree nil;
      row =
          row_one words 0 (length words) tree
          (record { stands = subst (λ (l : Words). Stands words 0 l (length words)) (sym w) (stands-whole words); tupled = h });
      number = refl;
      reached = refl;
      is = e;
      duals = sym (append-nil (encode (dual tree)));
    })

module _ (words tail : Words) (walk : Walk) (buffer : Words) (h : 0 < walk.left) where
  halfway_ahead : (tree : Tree) → Halfway words tail tree walk buffer → Ahead words walk.at walk.left (length words)
  halfway_ahead tree p = ahead words walk.at walk.left (length words) p.rest p.row p.number h

  module _ (s : Swapping words tail walk buffer) (o : Written words) where
    pub swap_ahead : Ahead words walk.at walk.left (length words)
    swap_ahead = let (tree, tupled, w) = o in halfway_ahead tree (s tree tupled w)

    pub swap_word : walk.at < length words
    swap_word = ahead_word words walk.at walk.left (length words) swap_ahead

  module _ (tag : Tag) (e : tag ≡ tag_of (word words walk.at)) (after : Walk) (step : PastKept words tag walk after) where
    abbrev Next : Ahead words walk.at walk.left (length words) → Type 0
    Next a = Row words after.at (glue (inner a.first) a.others) (length words)

    next-is : (a : Ahead words walk.at walk.left (length words)) → after.at ≡ walk.at + suc (length (kept a.first))
    next-is a = step.at a.first _ (ahead_tree words walk.at walk.left (length words) a)

    next_row : (a : Ahead words walk.at walk.left (length words)) → Next a
    next_row a =
        subst (λ (k : ℕ). Row words k (glue (inner a.first) a.others) (length words)) (sym (next-is a))
        (row-inner words walk.at (length words) a.first a.others a.row)

    next-count : (a : Ahead words walk.at walk.left (length words)) → count (glue (inner a.first) a.others) ≡ after.left
    next-count a =
        let below : formulas words tag walk.at ≡ count (inner a.first)
        = rw (e ∙ ahead_tag words walk.at walk.left (length words) a) (tree-formulas words walk.at _ a.first (ahead_tree words walk.at walk.left (length words) a)) in
        omega (arith, glue_count (inner a.first) a.others, a.number, step.left)

    pub swap_fits : Swapping words tail walk buffer → Written words → (after.at + after.left ≤ length words) × (walk.at < after.at)
    swap_fits s o =
        let a = swap_ahead s o in (
          omega (arith, row-few words after.at (length words) _ (next_row a), next-count a),
          omega (arith, next-is a),
        )

    module _ (z : ℤ) (p : z ≡ pos (code (paired tag))) where
      -- the buffer after a store
      stored :
          (tree : Tree) (was : Halfway words tail tree walk buffer) (a : Ahead words walk.at walk.left (length words)) →
          set buffer walk.at z ≡ (was.done ++ (z ∷ kept a.first)) ++ (drop after.at words ++ tail)
      stored tree was a =
          let t = a.first in
          let first = pos (code (root t)) in
          let here : drop walk.at words ≡ (first ∷ kept t) ++ drop after.at words
          = (row_kept words walk.at (length words) t a.others a.row).here ∙ ap (λ (k : ℕ). (first ∷ kept t) ++ drop k words) (sym (next-is a)) in
          ap (λ (b : Words). set b walk.at z) (was.is ∙ ap (λ (l : Words). was.done ++ (l ++ tail)) here)
          ∙ set_at was.done first ((kept t ++ drop after.at words) ++ tail) z walk.at was.reached
          ∙ ap (λ (l : Words). was.done ++ l) (append_assoc (z ∷ kept t) (drop after.at words) tail)
          ∙ sym (append_assoc was.done (z ∷ kept t) (drop after.at words ++ tail))

      -- the dual's words
      written :
          (tree : Tree) (was : Halfway words tail tree walk buffer) (t : Tree) (us : Trees) →
          was.rest ≡ cons t us →
          z ≡ pos (code (paired (root t))) →
          encode (dual tree) ≡ (was.done ++ (z ∷ kept t)) ++ encode_all (dual_all (glue (inner t) us))
      unfolding dual encode
      written tree was t us q y =
          was.duals
          ∙ ap (λ (l : Trees). was.done ++ encode_all (dual_all l)) q
          ∙ ap (λ (l : Words). was.done ++ (l ++ encode_all (dual_all us)))
          (dual-words t ∙ ap (λ (x : ℤ). (x ∷ kept t) ++ encode_all (dual_all (inner t))) (sym y))
          ∙ ap (λ (l : Words). was.done ++ l) (append_assoc (z ∷ kept t) (encode_all (dual_all (inner t))) (encode_all (dual_all us)))
          ∙ ap (λ (l : Words). was.done ++ ((z ∷ kept t) ++ l)) (sym (ap encode_all (glue_dual (inner t) us) ∙ glue_words (dual_all (inner t)) (dual_all us)))
          ∙ sym (append_assoc was.done (z ∷ kept t) (encode_all (dual_all (glue (inner t) us))))

      pub swap_more : Swapping words tail walk buffer → Swapping words tail after (set buffer walk.at z)
      unfolding halfway_ahead
      swap_more s tree tupled w =
          let was = s tree tupled w in
          let a = halfway_ahead tree was in
          let t = a.first in
          let long : length (was.done ++ (z ∷ kept t)) ≡ length was.done + suc (length (kept t)) = length-append was.done (z ∷ kept t) in
          record {
            done = was.done ++ (z ∷ kept t);
            rest = glue (inner t) a.others;
            row = next_row a;
            number = next-count a;
            reached = omega (arith, long, was.reached, next-is a);
            is = stored tree was a;
            duals =
                written tree was t a.others (ahead_is words walk.at walk.left (length words) was.rest was.row was.number h)
                (p ∙ ap (λ (k : Tag). pos (code (paired k))) (e ∙ ahead_tag words walk.at walk.left (length words) a));
          }

-- no formula is left
pub swap_end :
    (words tail : Words) (walk : Walk) (buffer : Words) →
    walk.left ≤ 0 →
    Swapping words tail walk buffer →
    (tree : Tree) → Tupled tree → encode tree ≡ words → buffer ≡ encode (dual tree) ++ tail
unfolding dual encode
swap_end words tail walk buffer h s tree tupled w =
    let p = s tree tupled w in
    let (none, end) = row-none words walk.at (length words) p.rest p.row (omega (arith, p.number)) in
    let whole : encode (dual tree) ≡ p.done = p.duals ∙ ap (λ (l : Trees). p.done ++ encode_all (dual_all l)) none ∙ append-nil p.done in
    p.is
    ∙ ap (λ (l : Words). p.done ++ (l ++ tail)) (drop_of_length-le words {i = walk.at} (omega (arith, end)))
    ∙ ap (λ (l : Words). l ++ tail) (sym whole)

-- what was copied stands at the front
pub front_again : (words tail buffer : Words) → buffer ≡ words ++ tail → buffer ≡ words ++ drop (length words) buffer
front_again words tail buffer e =
    e ∙ ap (λ (l : Words). words ++ l) (sym (ap (drop (length words)) e ∙ drop-append_seam words tail))

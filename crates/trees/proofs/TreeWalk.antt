-- A tree is copied node by node: the trees that are left stand at the index reached, are as many as counted, and their words
-- with the numbers put in are still to come.
use Prim.Native.Nat.{ℕ, ◌+◌, ◌-◌, ◌≤◌, ◌<◌}
use native.Mathlib.Omega.{arith}
use mathlib.Core.Path.{◌≡◌, refl, ap, sym, ◌∙◌, subst}
use mathlib.Core.List.{[], ◌++◌, append-nil}
use lib.ListN.{length, drop, length-append}
use Rattle.model.specs.Words.{Words, word}
use Rattle.model.specs.Tag.{Tag, tag_of}
use Rattle.model.specs.Tree.{Tree, Trees, nil, cons, count, encode, encode_all}
use Rattle.model.specs.Putting.{put, put_all}
use Rattle.laws.specs.Putting.Modes.{put-length}
use Rattle.policies.specs.Node.{Sized}
use Rattle.trees.specs.declared.walk.Walk.{Walk}
use Rattle.trees.specs.Grown.{Grown, Tree-at, Room-at}
use Rattle.trees.specs.Walk.{Row, Ahead, Passed}
use Rattle.trees.proofs.Rows.{row_one, row-none, glue, children, tree-own}
use Rattle.trees.proofs.Ahead.{ahead, ahead_is, ahead_tree, passed_row, passed_count}
use Rattle.words.specs.Laying.{laid}
use Rattle.words.proofs.LayingLaws.{laid-front, Filled, fill_start, fill-room, fill-long, fill_more, fill_end}
use Rattle.trees.specs.Own.{own_words}
use Rattle.trees.proofs.OwnLaws.{put-own-long, put_first}

module _ (ρ words : Words) (at : ℕ) (old : Words) where
  -- the words of trees with the numbers put in
  abbrev new : Trees → Words
  new ts = encode_all (put_all ts ρ)

  pub record Partly (tree : Tree) (end : ℕ) (walk : Walk) (out : Words) : Type 0 where
    pub rest : Trees
    pub row : Row words walk.at rest end
    pub number : count rest ≡ walk.left
    pub filled : Filled old 0 (encode (put tree ρ)) (new rest) (walk.at - at) out

module _ (ρ words : Words) (at : ℕ) (old : Words) where
  abbrev pub Treewise : (walk : Walk) (out : Words) → Type 0
  Treewise walk out =
      (at ≤ walk.at)
      × ((tree : Tree) (end : ℕ) → Grown words at tree end → length (encode tree) ≤ length old → Partly ρ words at old tree end walk out)

  pub tree-start : (walk : Walk) → walk ≡ record { at = at; left = 1 } → Treewise walk old
  unfolding count encode put
  tree-start walk e = subst (λ (w : Walk). Treewise w old) (sym e) (
    omega arith,
    λ tree end g room.
        let none : 0 ≡ at - at = omega arith in
        record {
          rest = cons tree nil;
          row = row_one words at end tree g;
          number = refl;
          filled =
              subst (λ (k : ℕ). Filled old 0 (encode (put tree ρ)) (encode (put tree ρ) ++ []) k old) none
              (subst (λ (l : Words). Filled old 0 (encode (put tree ρ)) l 0 old) (sym (append-nil (encode (put tree ρ))))
              (fill_start old 0 (encode (put tree ρ)) (omega (arith, put-length tree ρ))));
        },
  )

  module _ (walk : Walk) (out : Words) (w : Treewise walk out) where
    -- nothing is left
    pub tree-last :
        walk.left ≤ 0 →
        (tree : Tree) (end : ℕ) → Grown words at tree end → length (encode tree) ≤ length old →
        out ≡ encode (put tree ρ) ++ drop (length (encode tree)) old
    unfolding encode put
    tree-last h tree end g room =
        let p = w.1 tree end g room in
        let none = (row-none words walk.at end p.rest p.row (omega (arith, p.number))).0 in
        fill_end old 0 (encode (put tree ρ)) _ _ out p.filled (ap (λ (ts : Trees). encode_all (put_all ts ρ)) none)
        ∙ laid-front old (encode (put tree ρ))
        ∙ ap (λ (k : ℕ). encode (put tree ρ) ++ drop k old) (put-length tree ρ)

    module _ (h : 0 < walk.left) where
      next : (tree : Tree) (end : ℕ) → Partly ρ words at old tree end walk out → Ahead words walk.at walk.left end
      next tree end p = ahead words walk.at walk.left end p.rest p.row p.number h

      pub tree-next : Room-at words at (length old) → (end : ℕ) × Ahead words walk.at walk.left end
      tree-next (tree, end, g, room) = (end, next tree end (w.1 tree end g room))

      module _ (tag : Tag) (e : tag ≡ tag_of (word words walk.at)) (after : Walk) (step : Passed words tag walk after) where
        -- the words of the next node come first
        words-first :
            (tree : Tree) (end : ℕ) (p : Partly ρ words at old tree end walk out) →
            let a = next tree end p in
            (encode_all (put_all p.rest ρ)
            ≡ own_words (put a.first ρ) ++ encode_all (put_all (glue (children a.first) a.others) ρ))
            × (length (own_words (put a.first ρ)) ≡ step.own)
        unfolding next
        words-first tree end p =
            let a = next tree end p in (
              ap (λ (ts : Trees). encode_all (put_all ts ρ)) (ahead_is words walk.at walk.left end p.rest p.row p.number h)
                  ∙ put_first ρ a.first a.others,
              put-own-long ρ a.first
                  ∙ sym (tree-own words walk.at _ a.first (ahead_tree words walk.at walk.left end a) tag e step.own step.size),
            )

        -- so many words of its own has the node passed, and there is room for them
        pub tree-sized : Sized words tag walk.at (after.at - walk.at)
        tree-sized = let same : step.own ≡ after.at - walk.at = omega (arith, step.at) in subst (Sized words tag walk.at) same step.size

        pub tree_asks : Room-at words at (length old) → Tree-at words walk.at × (walk.at - at + (after.at - walk.at) ≤ length out)
        tree_asks (tree, end, g, room) =
            let p = w.1 tree end g room in
            let a = next tree end p in
            let (is, long) = words-first tree end p in (
              (a.first, _, ahead_tree words walk.at walk.left end a),
              omega (
                arith,
                step.at,
                fill-room old 0 _ _ _ out p.filled,
                fill-long old 0 _ _ _ out p.filled,
                ap length is,
                length-append (own_words (put a.first ρ)) (encode_all (put_all (glue (children a.first) a.others) ρ)),
              ),
            )

        pub tree-more :
            (made : Words) →
            ((tree : Tree) (end : ℕ) → Grown words walk.at tree end → made ≡ laid out (walk.at - at) (own_words (put tree ρ))) →
            Treewise after made
        tree-more made f = (
          omega (arith, w.0, step.at),
          λ tree end g room.
              let p = w.1 tree end g room in
              let a = next tree end p in
              let (is, long) = words-first tree end p in
              record {
                rest = glue (children a.first) a.others;
                row = passed_row words walk.at walk.left end a tag e after step;
                number = passed_count words walk.at walk.left end a tag e after step;
                filled =
                    fill_more old 0 _ _ _ out p.filled (own_words (put a.first ρ)) _ is (walk.at - at) (after.at - at) made
                    (omega arith)
                    (omega (arith, long, w.0, step.at))
                    (f a.first _ (ahead_tree words walk.at walk.left end a));
              },
        )

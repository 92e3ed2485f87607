-- The body of a quantifier at its instances, one after another: those passed are in the state of the join. The tuples stand in
-- the first places of scratch, and a child is lent the places behind them.
use Prim.Native.Nat.{ℕ, zero, suc, ◌+◌, ◌*◌, ◌-◌, ◌/◌, ◌≤◌, ◌<◌, max}
use native.Mathlib.Omega.{arith}
use native.Mathlib.Numerals.{add-one}
use mathlib.Core.Path.{◌≡◌, sym, ap, ◌∙◌, subst}
use mathlib.Core.Logic.{⊎_elim}
use mathlib.Core.Bool.{Bool}
use mathlib.Core.List.{List, [], ◌∷◌, ◌++◌}
use lib.ListN.{length, get_or, take, drop}
use lib.Seq.{take-suc, take_all, take-take}
use lib.IntN.{ℤ}
use borrow.Author.Tests.{ltb-false}
use Rattle.model.specs.Words.{Words}
use Rattle.model.specs.Log.{rows}
use Rattle.model.specs.Tree.{Tree, Trees, nil, cons}
use Rattle.model.specs.Level.{formula}
use Rattle.model.specs.Joining.{append}
use Rattle.model.specs.Reduction.{each, most, reduce, need}
use Rattle.laws.specs.Reading.Nodes.{Node}
use Rattle.laws.specs.Lists.Span.{drop-take}
use Rattle.policies.specs.Standing.{Here}
use Rattle.trees.specs.Grown.{Grown, Tree-at}
use Rattle.trees.proofs.Forming.{node_grown}
use Rattle.environments.specs.declared.environment.Environment.{Environment}
use Rattle.joining.specs.declared.answer.Reduced.{Reduced}
use Rattle.joining.specs.declared.answer.Reduced.TheVariants.{Short}
use Rattle.joining.specs.declared.join.Join.{Join}
use Rattle.joining.specs.declared.join.State.TheVariants as S
use Rattle.reduction.specs.declared.walk.Walked.{Walked}
use Rattle.joining.specs.Answer.{Answers}
use Rattle.joining.specs.Join.{Joining, Adding, added}
use Rattle.nodes.specs.Ground.{Outer}
use Rattle.nodes.specs.Last.{Found}
use Rattle.reduction.specs.Walk.{Reduces, ReducesNode, bodies, needs, Works}
use Rattle.joining.proofs.Telling.{told_means}
use Rattle.joining.proofs.Lending.{rest, rest-long, lent, lent_long, lent_front, short-few, few-short, adding}
use Rattle.reduction.proofs.Children.{each_more, most-more, reduce-wide}
use Rattle.reduction.proofs.WalkChildren.{short_means}

-- a part of a front part that two lists share
pub part_same :
    (n v m : ℕ) (xs ys : Words) → n + v ≤ m → take m xs ≡ take m ys → take v (drop n xs) ≡ take v (drop n ys)
part_same n v m xs ys h e =
    let within : (l : Words) → take v (drop n l) ≡ drop n (take (n + v) (take m l))
    = λ l. sym (drop-take n v l) ∙ ap (drop n) (sym (take-take (n + v) m l h)) in
    within xs ∙ ap (λ (l : Words). drop n (take (n + v) l)) e ∙ sym (within ys)

-- the need at one instance is within the greatest
pub most-at : (f : List ℤ → ℕ) (τs : List (List ℤ)) (i : ℕ) → i < length τs → f (get_or τs i []) ≤ most f τs
unfolding most
most-at f [] i h = absurd (omega arith)
most-at f (τ ∷ τs) zero h = omega arith
most-at f (τ ∷ τs) (suc i) h = omega (arith, most-at f τs i (omega arith))

-- a walk that does not answer that the places ran out had enough of them
pub enough_means :
    {places need : ℕ} {t : Tree} {before after : Words} {r : Reduced} →
    (r ≡ Short → ⊥) → Answers places need t before after r → need ≤ places
enough_means {places} {need} {t} {before} {after} {r} ok a =
    ⊎_elim (λ w. absurd (ok w.1)) (λ w. ltb-false places need w.0) (told_means r places need (length before) t a.is)

-- the places behind the first so many
pub places-left : (n u : ℕ) → 17 * u ≤ n → (n - 17 * u) / 17 ≡ n / 17 - u
places-left n u h = omega arith

-- scratch as it was when the tuples stood there, in its length and its first places
pub record ScratchKept (used : ℕ) (scratch now : Words) : Type 0 where
  pub long : length now ≡ length scratch
  pub front : take (17 * used) now ≡ take (17 * used) scratch

-- a child is lent the places behind the tuples, and leaves the tuples
module _ {used : ℕ} {scratch now : Words} (kept : ScratchKept used scratch now) (room : 17 * used ≤ length scratch) where
  pub lent_places : length (rest now (17 * used)) / 17 ≡ length scratch / 17 - used
  lent_places =
      ap (λ (n : ℕ). n / 17) (rest-long now (17 * used) ∙ ap (λ (n : ℕ). n - 17 * used) kept.long)
      ∙ places-left (length scratch) used room

  pub kept_lent : (ys : Words) → length ys ≡ length (rest now (17 * used)) → ScratchKept used scratch (lent now (17 * used) ys)
  kept_lent ys l =
      let within : 17 * used ≤ length now = omega (arith, kept.long) in
      record {
        long = lent_long now (17 * used) ys within l ∙ kept.long;
        front = lent_front now (17 * used) ys within l ∙ kept.front;
      }

-- i instances have been passed
abbrev pub InstancesSoFar :
    (table words log : Words) (b : Bool) (level scope v body from k : ℕ) (held : Environment) (scratch : Words) (places i next : ℕ) (j : Join) (out : Words) →
    Type 0
InstancesSoFar table words log b level scope v body from k held scratch places i next j out =
    (ρ : List ℤ) (found : List (List ℤ)) (f : Tree) (end : ℕ) →
    Outer held scope ρ →
    Found scratch scope from v k found →
    Node table words formula level (scope + v) body f end →
    Joining b (bodies table log f ρ (take i found)) (needs table log f ρ (take i found)) places out j
    × (0 < i → next ≡ end)
    × (needs table log f ρ (take i found) ≤ places)

-- what the walk past the body asks
pub instances-tree : {table words : Words} {level free body : ℕ} → Here table words formula level free body → Tree-at words body
instances-tree {table} {words} {level} {free} {body} (f, end, node) = (f, end, node_grown table words formula level free body f end node)

module _ (log : Words) {table words : Words} {b : Bool} {level scope v body from k : ℕ} {held : Environment} {scratch : Words} {places : ℕ} where
  pub instances-start :
      (next : ℕ) {j : Join} {out : Words} → ((places : ℕ) (out : Words) → Joining b nil 0 places out j) →
      InstancesSoFar table words log b level scope v body from k held scratch places 0 next j out
  unfolding each most
  instances-start next {out = out} new ρ found f end o s node = (new places out, λ h. absurd (omega arith), omega arith)

  module _ (i : ℕ) {next : ℕ} {j : Join} {out : Words} (inv : InstancesSoFar table words log b level scope v body from k held scratch places i next j out) where
    -- the words so far are within the buffer
    pub instances-within :
        Here table words formula level (scope + v) body → (ρ : List ℤ) × Outer held scope ρ →
        (found : List (List ℤ)) × Found scratch scope from v k found → j.words ≤ length out
    instances-within (f, end, node) (ρ, o) (found, s) = (inv ρ found f end o s node).0.within

    -- the next instance
    module _
        (h : i < k) {used : ℕ} {now : Words} (kept : ScratchKept used scratch now) (below : from + k ≤ used) (small : scope + v ≤ 16)
        {bound : Environment}
        (binds : (ρ : List ℤ) → Outer held scope ρ → Outer bound (scope + v) (ρ ++ take v (drop (17 * (from + i) + scope) now)))
        {lent_places free : ℕ} (same : lent_places ≡ places) (more : free ≡ scope + v) {part : Words} {r : Walked}
        (reduced : ReducesNode table words log formula level free body bound lent_places (rest out j.words) part r) where
      -- the body at this instance
      child_walk :
          (ρ : List ℤ) (found : List (List ℤ)) (f : Tree) (end : ℕ) →
          Outer held scope ρ → Found scratch scope from v k found → Node table words formula level (scope + v) body f end →
          Reduces table log f (ρ ++ get_or found i []) places end (rest out j.words) part r
      child_walk ρ found f end o s node =
          let tuple : take v (drop (17 * (from + i) + scope) now) ≡ get_or found i []
          = part_same (17 * (from + i) + scope) v (17 * used) now scratch (omega arith) kept.front ∙ s.stands i h in
          (subst (λ (p : ℕ). ReducesNode table words log formula level (scope + v) body bound p (rest out j.words) part r) same
          (subst (λ (n : ℕ). ReducesNode table words log formula level n body bound lent_places (rest out j.words) part r) more reduced))
          (ρ ++ get_or found i []) f end (subst (λ (τ : List ℤ). Outer bound (scope + v) (ρ ++ τ)) tuple (binds ρ o)) node

      -- the child is added
      pub instances_adding :
          Here table words formula level (scope + v) body → (ρ : List ℤ) × Outer held scope ρ →
          (found : List (List ℤ)) × Found scratch scope from v k found → Adding (lent out j.words part) j r.answer
      instances_adding (f, end, node) (ρ, o) (found, s) =
          adding (inv ρ found f end o s node).0 (child_walk ρ found f end o s node).answers (reduce-wide table (rows log) f (ρ ++ get_or found i []))

      module _ {j' : Join} {after : Words} (add : (a : Adding (lent out j.words part) j r.answer) → added a after j') where
        -- with one instance more
        pub instances-next :
            (r.answer ≡ Short → ⊥) → InstancesSoFar table words log b level scope v body from k held scratch places (i + 1) r.next j' after
        instances-next ok ρ found f end o s node =
            let τ = get_or found i [] in
            let state = (inv ρ found f end o s node).0 in
            let fine = (inv ρ found f end o s node).2 in
            let walked = child_walk ρ found f end o s node in
            let state' :
            Joining b (append (bodies table log f ρ (take i found)) (cons (reduce table (rows log) f (ρ ++ τ)) nil))
            (max (needs table log f ρ (take i found)) (need table (rows log) f (ρ ++ τ))) places after j'
            = add (adding state walked.answers (reduce-wide table (rows log) f (ρ ++ τ))) in
            let more : take i found ++ (τ ∷ []) ≡ take (i + 1) found
            = sym (rw (add-one i) (take-suc found i [] (omega (arith, s.many)))) in
            let here = enough_means ok walked.answers in (
              subst (λ (l : List (List ℤ)). Joining b (bodies table log f ρ l) (needs table log f ρ l) places after j') more
                  (subst (λ (n : ℕ). Joining b (bodies table log f ρ (take i found ++ (τ ∷ []))) n places after j')
                  (sym (most-more (λ (σ : List ℤ). need table (rows log) f (ρ ++ σ)) (take i found) τ))
                  (subst (λ (l : Trees). Joining b l (max (needs table log f ρ (take i found)) (need table (rows log) f (ρ ++ τ))) places after j')
                  (sym (each_more (λ (σ : List ℤ). reduce table (rows log) f (ρ ++ σ)) (take i found) τ))
                  state')),
              λ _. walked.behind ok,
              subst (λ (l : List (List ℤ)). needs table log f ρ l ≤ places) more
                  (omega (arith, most-more (λ (σ : List ℤ). need table (rows log) f (ρ ++ σ)) (take i found) τ)),
            )

        -- the places ran out
        pub instances-short :
            r.answer ≡ Short →
            (at : ℕ) (ρ : List ℤ) (found : List (List ℤ)) (f : Tree) (end : ℕ) →
            Outer held scope ρ → Found scratch scope from v k found → Node table words formula level (scope + v) body f end →
            Works b table log f ρ found places end after (record { join = j'; next = at })
        instances-short e at ρ found f end o s node =
            let τ = get_or found i [] in
            let answers = (child_walk ρ found f end o s node).answers in
            let state' = add (adding (inv ρ found f end o s node).0 answers (reduce-wide table (rows log) f (ρ ++ τ))) in
            let few : places < need table (rows log) f (ρ ++ τ) = short_means e answers in
            let is : j'.state ≡ S.Short = few-short state' (omega arith) in
            let all = most-at (λ (σ : List ℤ). need table (rows log) f (ρ ++ σ)) found i (omega (arith, s.many)) in
            record {
              short = λ _. omega arith;
              whole = λ n. absurd (n is);
              behind = λ n. absurd (n is);
            }

    -- no instance is left
    works :
        k ≤ i → (at : ℕ) (ρ : List ℤ) (found : List (List ℤ)) (f : Tree) (end : ℕ) → at ≡ end →
        Outer held scope ρ → Found scratch scope from v k found → Node table words formula level (scope + v) body f end →
        Works b table log f ρ found places end out (record { join = j; next = at })
    works h at ρ found f end is o s node =
        let (state, ends, fine) = inv ρ found f end o s node in
        let all : take i found ≡ found = take_all i found (omega (arith, s.many)) in
        record {
          short = λ n. let few = short-few state n in absurd (omega arith);
          whole = λ _. subst (λ (l : List (List ℤ)). Joining b (bodies table log f ρ l) (needs table log f ρ l) places out j) all state;
          behind = λ _. is;
        }

    pub instances_end :
        k ≤ i → 0 < k → (ρ : List ℤ) (found : List (List ℤ)) (f : Tree) (end : ℕ) →
        Outer held scope ρ → Found scratch scope from v k found → Node table words formula level (scope + v) body f end →
        Works b table log f ρ found places end out (record { join = j; next = next })
    instances_end h some ρ found f end o s node =
        works h next ρ found f end ((inv ρ found f end o s node).1 (omega arith)) o s node

    -- there was none
    pub instances-none :
        k ≡ 0 → (at : ℕ) → ((tree : Tree) (end : ℕ) → Grown words body tree end → at ≡ end) →
        (ρ : List ℤ) (found : List (List ℤ)) (f : Tree) (end : ℕ) →
        Outer held scope ρ → Found scratch scope from v k found → Node table words formula level (scope + v) body f end →
        Works b table log f ρ found places end out (record { join = j; next = at })
    instances-none none at behind ρ found f end o s node =
        works (omega arith) at ρ found f end (behind f end (node_grown table words formula level (scope + v) body f end node)) o s node

-- The children of a join, one after another: those passed are in the state of the join, those left stand at the index reached.
use Prim.Native.Nat.{ℕ, ◌+◌, ◌≤◌, ◌<◌, max}
use native.Mathlib.Omega.{arith}
use mathlib.Core.Path.{◌≡◌, refl, sym, ap, ◌∙◌, subst}
use mathlib.Core.Bool.{Bool}
use mathlib.Core.List.{List}
use lib.ListN.{length}
use lib.IntN.{ℤ}
use borrow.Author.Tests.{ltb-true, lt-ltb}
use Rattle.model.specs.Words.{Words}
use Rattle.model.specs.Log.{rows}
use Rattle.model.specs.Tree.{Tree, Trees, nil, cons, count, encode_all}
use Rattle.model.specs.Level.{operand}
use Rattle.model.specs.Joining.{append, joined}
use Rattle.model.specs.Reduction.{reduce, reduce_all, need, need_all}
use Rattle.laws.specs.Reading.Nodes.{Node, Nodes}
use Rattle.laws.specs.Reading.Parts.{first-parts, rest-parts}
use Rattle.policies.specs.Standing.{Here, HereAll}
use Rattle.environments.specs.declared.environment.Environment.{Environment}
use Rattle.joining.specs.declared.answer.Reduced.{Reduced}
use Rattle.joining.specs.declared.answer.Reduced.TheVariants.{Short}
use Rattle.joining.specs.declared.join.Join.{Join}
use Rattle.reduction.specs.declared.walk.Walked.{Walked}
use Rattle.joining.specs.Answer.{Answers}
use Rattle.joining.specs.Join.{Joining, Adding, added}
use Rattle.nodes.specs.Ground.{Outer}
use Rattle.reduction.specs.Walk.{ReducesNode, ReducesJoin}
use Rattle.joining.proofs.Parts.{append-none}
use Rattle.joining.proofs.Telling.{told-short, tell_short}
use Rattle.joining.proofs.Lending.{rest, lent, adding, answers-from}
use Rattle.reduction.proofs.Children.{reduce-wide, reduce_all-more, need_all-more}

-- one tree of those left joins those passed
pub append-next : (ts us : Trees) (t : Tree) → append ts (cons t us) ≡ append (append ts (cons t nil)) us
unfolding append
append-next nil us t = refl
append-next (cons x ts) us t = ap (cons x) (append-next ts us t)

-- the greatest need of trees is that of some of them or of the others
pub need_all-append :
    (table log : Words) (ts us : Trees) (ρ : List ℤ) →
    need_all table (rows log) (append ts us) ρ ≡ max (need_all table (rows log) ts ρ) (need_all table (rows log) us ρ)
unfolding need append
need_all-append table log nil us ρ = omega arith
need_all-append table log (cons t ts) us ρ = omega (arith, need_all-append table log ts us ρ)

-- an answer that the places ran out, whatever the residual
pub answers-short :
    {places need : ℕ} {t : Tree} {before after : Words} → places < need → length after ≡ length before → Answers places need t before after Short
answers-short {places} {need} {t} {before} h l = record {
  is = tell_short places need (length before) t (lt-ltb places need h);
  long = l;
  words = λ n e. let z : ◌≡◌ {A = ℕ} 0 1 = cc in absurd (omega arith);
}

-- a walk that answers so
pub short_means : {places need : ℕ} {t : Tree} {before after : Words} {r : Reduced} → r ≡ Short → Answers places need t before after r → places < need
short_means {places} {need} {t} {before} e a = ltb-true places need (told-short places need (length before) t (sym e ∙ a.is))

-- i of n children have been passed
abbrev pub ChildrenSoFar :
    (table words log : Words) (b : Bool) (above scope : ℕ) (held : Environment) (places n at i next : ℕ) (j : Join) (out : Words) → Type 0
ChildrenSoFar table words log b above scope held places n at i next j out =
    (ρ : List ℤ) → Outer held scope ρ → (ts : Trees) (end : ℕ) → Nodes table words (operand b) above scope at ts end → count ts ≡ n →
    (done : Trees) × (rest : Trees) × Nodes table words (operand b) above scope next rest end × (count rest + i ≡ n) × (ts ≡ append done rest)
    × Joining b (reduce_all table (rows log) done ρ) (need_all table (rows log) done ρ) places out j

module _ (log : Words) {table words : Words} {b : Bool} {above scope : ℕ} {held : Environment} {places n at : ℕ} where
  pub children-start : {j : Join} {out : Words} → ((places : ℕ) (out : Words) → Joining b nil 0 places out j) → ChildrenSoFar table words log b above scope held places n at 0 at j out
  unfolding append reduce need
  children-start {out = out} new ρ o ts end s e = (nil, ts, s, omega arith, refl, new places out)

  module _ (i : ℕ) {next : ℕ} {j : Join} {out : Words} (inv : ChildrenSoFar table words log b above scope held places n at i next j out) where
    -- the words so far are within the buffer
    pub children-within : HereAll table words (operand b) above scope n at → (ρ : List ℤ) × Outer held scope ρ → j.words ≤ length out
    children-within (ts, end, e, s) (ρ, o) = (inv ρ o ts end s e).5.within

    module _ (h : i < n) where
      -- the next child
      next_child :
          (rest : Trees) (end : ℕ) → count rest + i ≡ n → Nodes table words (operand b) above scope next rest end →
          (t : Tree) × (us : Trees) × (behind : ℕ) × (rest ≡ cons t us) × Node table words (operand b) above scope next t behind × Nodes table words (operand b) above scope behind us end × (count us + (i + 1) ≡ n)
      unfolding count
      next_child nil end left s = absurd (omega arith)
      next_child (cons t us) end left s =
          (t, us, _, refl, first-parts table words (operand b) above scope next end t us s, rest-parts table words (operand b) above scope next end t us s, omega arith)

      pub children-here : HereAll table words (operand b) above scope n at → (ρ : List ℤ) × Outer held scope ρ → Here table words (operand b) above scope next
      children-here (ts, end, e, s) (ρ, o) =
          let (done, rest, s', left, is, state) = inv ρ o ts end s e in
          let (t, us, behind, q, node, s'', l) = next_child rest end left s' in
          (t, behind, node)

      -- the child was lent so many places
      module _
          {lent_places : ℕ} (same : lent_places ≡ places) {part : Words} {r : Walked}
          (reduced : ReducesNode table words log (operand b) above scope next held lent_places (rest out j.words) part r) where
        child : ReducesNode table words log (operand b) above scope next held places (rest out j.words) part r
        child = subst (λ (p : ℕ). ReducesNode table words log (operand b) above scope next held p (rest out j.words) part r) same reduced

        -- the places ran out
        pub children-short :
            r.answer ≡ Short → {before after : Words} → length after ≡ length before →
            {w : Walked} → w.answer ≡ Short → ReducesJoin b table words log above scope n at held places before after w
        unfolding need
        children-short e l {w} is-short ρ ts end o s c =
            let (done, rest, s', left, is, state) = inv ρ o ts end s c in
            let (t, us, behind, q, node, s'', m) = next_child rest end left s' in
            let few = short_means e (child ρ t behind o node).answers in
            let all : need_all table (rows log) ts ρ ≡ max (need_all table (rows log) done ρ) (max (need table (rows log) t ρ) (need_all table (rows log) us ρ)) =
            ap (λ (l : Trees). need_all table (rows log) l ρ) (is ∙ ap (append done) q) ∙ need_all-append table log done (cons t us) ρ in
            record {
              answers = subst (Answers places (need_all table (rows log) ts ρ) _ _ _) (sym is-short) (answers-short (omega arith) l);
              behind = λ n. absurd (n is-short);
            }

        -- the child is added
        pub children_adding : HereAll table words (operand b) above scope n at → (ρ : List ℤ) × Outer held scope ρ → Adding (lent out j.words part) j r.answer
        children_adding (ts, end, e, s) (ρ, o) =
            let (done, rest, s', left, is, state) = inv ρ o ts end s e in
            let (t, us, behind, q, node, s'', l) = next_child rest end left s' in
            adding state (child ρ t behind o node).answers (reduce-wide table (rows log) t ρ)

        pub children-next :
            (r.answer ≡ Short → ⊥) → {j' : Join} {after : Words} →
            ((a : Adding (lent out j.words part) j r.answer) → added a after j') →
            ChildrenSoFar table words log b above scope held places n at (i + 1) r.next j' after
        children-next ok {j'} {after} add ρ o ts end s c =
            let (done, rest, s', left, is, state) = inv ρ o ts end s c in
            let (t, us, behind, q, node, s'', l) = next_child rest end left s' in
            let walked = child ρ t behind o node in
            let state' = add (adding state walked.answers (reduce-wide table (rows log) t ρ)) in (
              append done (cons t nil),
              us,
              subst (λ (k : ℕ). Nodes table words (operand b) above scope k us end) (sym (walked.behind ok)) s'',
              l,
              is ∙ ap (append done) q ∙ append-next done us t,
              subst (λ (n : ℕ). Joining b (reduce_all table (rows log) (append done (cons t nil)) ρ) n places after j') (sym (need_all-more table (rows log) done t ρ))
                  (subst (λ (l : Trees). Joining b l (max (need_all table (rows log) done ρ) (need table (rows log) t ρ)) places after j')
                  (sym (reduce_all-more table (rows log) done t ρ)) state'),
            )

    -- no child is left
    module _ (h : n ≤ i) where
      none_left : (rest : Trees) (end : ℕ) → Nodes table words (operand b) above scope next rest end → count rest ≤ 0 → (rest ≡ nil) × (end ≡ next)
      unfolding count encode_all
      none_left nil end s k = (refl, omega (arith, s.stands.ends))
      none_left (cons t us) end s k = absurd (omega arith)

      pub children_end :
          {before : Words} → length out ≡ length before → {after : Words} {r : Reduced} →
          ((b : Bool) (ts : Trees) (need places : ℕ) → Joining b ts need places out j → Answers places need (joined b ts) out after r) →
          ReducesJoin b table words log above scope n at held places before after (record { answer = r; next = next })
      unfolding reduce need
      children_end {before} l {after} {r} finish ρ ts end o s c =
          let (done, rest, s', left, is, state) = inv ρ o ts end s c in
          let (none, ends) = none_left rest end s' (omega arith) in
          let all : done ≡ ts = sym (is ∙ ap (append done) none ∙ append-none done) in
          record {
            answers =
                answers-from {before = before} l
                (subst (λ (l : Trees). Answers places (need_all table (rows log) l ρ) (joined b (reduce_all table (rows log) l ρ)) out after r) all (finish b _ _ places state));
            behind = λ _. sym ends;
          }

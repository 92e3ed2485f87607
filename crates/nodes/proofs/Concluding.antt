-- What is left of a quantifier once its bodies are joined: its restriction stands where the code looks for it, and the join is
-- finished as it is if the restriction is closed, or with the last part.
use Prim.Native.Nat.{ℕ, ◌+◌, ◌*◌, max}
use native.Mathlib.Omega.{arith}
use mathlib.Core.Path.{◌≡◌, sym, ap, ap₂, ◌∙◌, subst}
use mathlib.Core.Bool.{Bool, true, false, cond}
use mathlib.Core.List.{◌++◌}
use lib.ListN.{length}
use Rattle.model.specs.Words.{Words, value}
use Rattle.model.specs.Tree.{Tree, Trees, quantifier, nil, cons, encode}
use Rattle.model.specs.Level.{restriction, quantifier_cost}
use Rattle.model.specs.Putting.{put}
use Rattle.model.specs.Joining.{append, joined}
use Rattle.model.specs.Reduction as M
use Rattle.laws.specs.Reading.Nodes.{Node}
use Rattle.laws.specs.Reading.Parts.{quantifier-parts}
use Rattle.environments.specs.declared.environment.Environment.{Environment}
use Rattle.environments.specs.Standing.{HereRestriction}
use Rattle.instances.specs.Closing.{TellsClosed}
use Rattle.joining.specs.declared.answer.Reduced.{Reduced}
use Rattle.joining.specs.declared.join.Join.{Join}
use Rattle.joining.specs.Answer.{Answers}
use Rattle.joining.specs.Join.{Joining, Wide, Adding, added}
use Rattle.nodes.specs.Last.{QuantifierAt, HereQuantifier, Remains}
use Rattle.nodes.specs.Conclude.{Concluding, last_part, concluded}
use Rattle.joining.proofs.Parts.{append-none}
use Rattle.joining.proofs.Lending.{rest, lent, lent_long, adding, answers-from}
use Rattle.nodes.proofs.LastLaws.{Sizes, here_sizes, reads-v, reads_m}

-- what finishing a join says
abbrev pub Finishes : (out : Words) (j : Join) (after : Words) (r : Reduced) → Type 0
Finishes out j after r =
    (b : Bool) (ts : Trees) (need places : ℕ) → Joining b ts need places out j → Answers places need (joined b ts) out after r

-- the last part of a quantifier, the restriction of which is not closed
abbrev remaining :
    {table words scratch out : Words} {held : Environment} {scope at body next from k : ℕ} {j : Join} →
    Concluding table words scratch out held scope at body next from k j →
    Tree
remaining a = quantifier a.b a.v (a.excluded ++ a.tuples) (put a.c a.ρ) (put a.f a.ρ)

module _
    {table words scratch out : Words} {held : Environment} {scope at body next from k : ℕ} {j : Join}
    (a : Concluding table words scratch out held scope at body next from k j) where
  -- the quantifier
  pub concluding_at : QuantifierAt words scope at body next a.b a.v a.excluded a.c a.f
  concluding_at =
      record { table = table; role = a.stands.role; above = a.stands.above; node = a.stands.node; splits = a.splits }

  pub concluding_here : HereQuantifier words scope at body next
  concluding_here = (a.b, a.v, a.excluded, a.c, a.f, concluding_at)

  -- v and m being the numbers that are read there
  module _ {v m : ℕ} (is-v : v ≡ value words (at + 1)) (is_m : m ≡ value words (at + 2)) where
    pub concluding_sizes : Sizes words scope at body next k v m
    concluding_sizes = here_sizes words scope at body next k v m is-v is_m concluding_here

    v-is : v ≡ a.v
    v-is = is-v ∙ reads-v words scope at body next a.b a.v a.excluded a.c a.f concluding_at

    m_is : m ≡ length a.excluded
    m_is = is_m ∙ reads_m words scope at body next a.b a.v a.excluded a.c a.f concluding_at

    restriction-node :
        Node table words restriction (a.stands.above + quantifier_cost a.stands.role a.b) (scope + a.v) (at + 3 + v * m) a.c
        (at + 3 + v * m + length (encode a.c))
    restriction-node =
        let same : a.v * length a.excluded ≡ v * m = sym (ap₂ (λ (x y : ℕ). x * y) v-is m_is) in
        subst
        (λ (n : ℕ). Node table words restriction (a.stands.above + quantifier_cost a.stands.role a.b) (scope + a.v) (at + 3 + n) a.c (at + 3 + n + length (encode a.c)))
        same
        (quantifier-parts table words a.stands.role a.stands.above scope at next a.b a.v a.excluded a.c a.f a.stands.node).restricts

    -- its restriction
    pub concluding_restriction : HereRestriction table words (at + 3 + v * m)
    concluding_restriction = (
      a.stands.above + quantifier_cost a.stands.role a.b,
      scope + a.v,
      omega (arith, concluding_sizes.small, v-is),
      (a.c, at + 3 + v * m + length (encode a.c), restriction-node),
    )

    pub concluding_closed : {r : Bool} → TellsClosed table words (at + 3 + v * m) r → r ≡ M.closed a.c table
    concluding_closed tells = tells _ _ a.c _ restriction-node

  -- the trees that are joined
  all_closed : M.closed a.c table ≡ true → append a.ts (last_part a) ≡ a.ts
  all_closed e =
      ap (λ (x : Bool). append a.ts (cond x nil (cons (remaining a) nil))) e ∙ append-none a.ts

  all_open : M.closed a.c table ≡ false → append a.ts (last_part a) ≡ append a.ts (cons (remaining a) nil)
  all_open e = ap (λ (x : Bool). append a.ts (cond x nil (cons (remaining a) nil))) e

  -- the restriction is closed: the join is the answer
  pub concluded-closed : {after : Words} {r : Reduced} → M.closed a.c table ≡ true → Finishes out j after r → concluded a after r
  concluded-closed {after} {r} e finish =
      subst (λ (ts : Trees). Answers a.places a.need (joined a.b ts) out after r) (sym (all_closed e))
      (finish a.b a.ts a.need a.places a.state)

  -- it is not: the last part is added
  module _ {part : Words} {answer : Reduced} (remains : Remains words scratch held scope at body next from k (rest out j.words) part answer) where
    part-answers : Answers a.places 0 (remaining a) (rest out j.words) part answer
    part-answers =
        remains a.ρ a.outer a.b a.v a.excluded a.c a.f concluding_at a.tuples a.found a.places

    part-wide : Wide (remaining a)
    unfolding Wide
    part-wide = tt

    pub concluding_long : length (lent out j.words part) ≡ length out
    concluding_long = lent_long out j.words part a.state.within part-answers.long

    pub concluding_adding : Adding (lent out j.words part) j answer
    concluding_adding = adding a.state part-answers part-wide

    module _
        {between : Words} {whole : Join}
        (add : (x : Adding (lent out j.words part) j answer) → added x between whole) where
      pub concluding_joining :
          Joining a.b (append a.ts (cons (remaining a) nil)) a.need a.places between whole
      concluding_joining =
          let none : max a.need 0 ≡ a.need = omega arith in
          subst (λ (n : ℕ). Joining a.b (append a.ts (cons (remaining a) nil)) n a.places between whole) none
          (add (adding a.state part-answers part-wide))

      pub concluded_open :
          length between ≡ length out →
          {after : Words} {r : Reduced} →
          M.closed a.c table ≡ false →
          Finishes between whole after r →
          concluded a after r
      concluded_open long {after} {r} e finish =
          subst (λ (ts : Trees). Answers a.places a.need (joined a.b ts) out after r) (sym (all_open e))
          (answers-from long
          (finish a.b (append a.ts (cons (remaining a) nil)) a.need a.places concluding_joining))

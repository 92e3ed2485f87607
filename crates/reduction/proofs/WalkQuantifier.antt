-- The reduction of a quantifier: its restriction and its body, its instances, and its need of places, from what the code reads.
use Prim.Native.Nat.{ℕ, ◌+◌, ◌*◌, ◌-◌, ◌≤◌, ◌<◌}
use native.Mathlib.Omega.{arith}
use mathlib.Core.Path.{◌≡◌, sym, ap, ap₂, ◌∙◌, subst}
use mathlib.Core.Logic.{⊎_elim}
use mathlib.Core.Bool.{Bool, cond}
use mathlib.Core.List.{List, [], ◌∷◌, ◌++◌, map}
use lib.ListN.{length, get_or, take, drop}
use lib.Dec.{ltb}
use lib.IntN.{ℤ, nat_abs}
use borrow.Author.Tests.{ltb-true, ltb-false, lt-ltb, le-ltb}
use Rattle.model.specs.Words.{Words, value}
use Rattle.model.specs.Log.{rows}
use Rattle.model.specs.Tree.{Tree, quantifier, nil, cons, encode}
use Rattle.model.specs.Level.{restriction, formula, quantifier_cost}
use Rattle.model.specs.Listing.{outer, list, entries}
use Rattle.model.specs.Putting.{put}
use Rattle.model.specs.Joining.{append, joined}
use Rattle.model.specs.Reduction.{fresh, tuple, most, instances, closed, reduce, need}
use Rattle.laws.specs.Words.Tests.{decide}
use Rattle.laws.specs.Reading.Formed.{Formed}
use Rattle.laws.specs.Reading.Nodes.{Node}
use Rattle.laws.specs.Reading.Items.{tuples}
use Rattle.laws.specs.Reading.Parts.{QuantifierParts, quantifier-parts}
use Rattle.environments.specs.declared.environment.Environment.{Environment}
use Rattle.joining.specs.declared.answer.Reduced.{Reduced}
use Rattle.joining.specs.declared.answer.Reduced.TheVariants.{Short}
use Rattle.nodes.specs.declared.prepare.Placed.{Placed}
use Rattle.std.specs.Prelude.{Option, Some, None}
use Rattle.joining.specs.declared.join.State.TheVariants as S
use Rattle.reduction.specs.declared.walk.Walked.{Walked}
use Rattle.reduction.specs.declared.walk.Worked.{Worked}
use Rattle.joining.specs.Answer.{settled, told, Answers}
use Rattle.nodes.specs.Ground.{Outer}
use Rattle.nodes.specs.Last.{Found}
use Rattle.nodes.specs.Prepare.{InstancesStand, InstancesTell, instances_at, listed}
use Rattle.nodes.specs.Conclude.{Quantified, Concluding}
use Rattle.reduction.specs.Walk.{Reduces, bodies, needs, Works}
use Rattle.joining.proofs.Lending.{answers-from}
use Rattle.reduction.proofs.WalkChildren.{answers-short}
use Rattle.reduction.proofs.WalkInstances.{part_same}

-- places that were counted before can be counted with the rest
told_more :
    (places used n room : ℕ) (t : Tree) → used ≤ places → told (places - used) n room t ≡ told places (used + n) room t
unfolding told
told_more places used n room t h =
    ap (λ (x : Bool). cond x Short (settled room t)) same
  where
    same : ltb (places - used) n ≡ ltb places (used + n)
    same =
        ⊎_elim
        (λ e. let l = ltb-true (places - used) n e in e ∙ sym (lt-ltb places (used + n) (omega arith)))
        (λ e. let l = ltb-false (places - used) n e in e ∙ sym (le-ltb places (used + n) (omega arith)))
        (decide (ltb (places - used) n))

-- where the restriction begins, as the code reads it, u being the number of variables that is read
abbrev first : (words : Words) (at u : ℕ) → ℕ
first words at u = at + 3 + u * value words (at + 2)

-- what the preparing of instances says
abbrev pub Prepares :
    (table words log : Words) (level scope at u : ℕ) (held : Environment) (places : ℕ) (scratch : Words) (r : Option Placed) → Type 0
Prepares table words log level scope at u held places scratch r =
    (ρ : List ℤ) (c : Tree) (body : ℕ) → Outer held scope ρ → Node table words restriction level (scope + u) (first words at u) c body →
    InstancesTell table words log scope u at c ρ body places scratch r

module _
    {table words : Words} {b : Bool} {level scope at u v next : ℕ} {excluded : List (List ℤ)} {c f : Tree}
    (is : u ≡ value words (at + 1)) (q : Quantified table words b level scope at v excluded c f next) where
  parts : QuantifierParts table words scope at next v excluded c f (q.above + quantifier_cost q.role b) (at + 3 + v * length excluded)
  parts = quantifier-parts table words q.role q.above scope at next b v excluded c f q.node

  pub reads-variables : u ≡ v
  unfolding value
  reads-variables = is ∙ ap nat_abs parts.variables

  reads-number : value words (at + 2) ≡ length excluded
  unfolding value
  reads-number = ap nat_abs parts.number

  first-is : at + 3 + v * length excluded ≡ (first words at u)
  first-is = ap₂ (λ (x y : ℕ). at + 3 + x * y) (sym reads-variables) (sym reads-number)

  -- the index of the body
  abbrev pub body_at : ℕ
  body_at = at + 3 + v * length excluded + length (encode c)

  pub variables-few : scope + u ≤ 16
  unfolding Formed
  variables-few = omega (arith, reads-variables, q.node.formed.4)

  pub restriction-here : Node table words restriction level (scope + u) (first words at u) c body_at
  restriction-here =
      subst (λ (l : ℕ). Node table words restriction l (scope + u) (first words at u) c body_at) (sym q.cost)
      (subst (λ (n : ℕ). Node table words restriction (q.above + quantifier_cost q.role b) (scope + n) (first words at u) c body_at) (sym reads-variables)
      (subst (λ (n : ℕ). Node table words restriction (q.above + quantifier_cost q.role b) (scope + v) n c body_at) first-is parts.restricts))

  pub body-here : Node table words formula level (scope + u) body_at f next
  body-here =
      subst (λ (l : ℕ). Node table words formula l (scope + u) body_at f next) (sym q.cost)
      (subst (λ (n : ℕ). Node table words formula (q.above + quantifier_cost q.role b) (scope + n) body_at f next) (sym reads-variables) parts.body)

  pub first-within : (first words at u) ≤ length words
  first-within = omega (arith, first-is, parts.restricts.stands.fits, parts.restricts.stands.ends)

  module _ (log : Words) {held : Environment} (ρ : List ℤ) (o : Outer held scope ρ) where
    -- the instances, as the code has read them
    abbrev pub found : List (List ℤ)
    found = instances_at table words log scope u at c ρ

    listing : ℕ → ℕ → List (List ℤ)
    listing s w = map (tuple s w) (list table (rows log) c (s + w) (outer ρ ∷ []))

    found_are : found ≡ instances table (rows log) v excluded c ρ
    unfolding instances listing
    found_are =
        ap (λ (m : ℕ). fresh (tuples words u (at + 3) m) (listing scope u)) reads-number
        ∙ ap (λ (w : ℕ). fresh (tuples words w (at + 3) (length excluded)) (listing scope w)) reads-variables
        ∙ ap (λ (τs : List (List ℤ)). fresh τs (listing scope v)) parts.reads
        ∙ ap (λ (s : ℕ). fresh excluded (listing s v)) (sym o.1)

    need-is : need table (rows log) (quantifier b v excluded c f) ρ ≡ listed table log scope u c ρ + needs table log f ρ found
    unfolding need
    need-is =
        ap₂ (λ (m : ℕ) (τs : List (List ℤ)). 1 + entries table (rows log) c m (outer ρ ∷ []) + most (λ τ. need table (rows log) f (ρ ++ τ)) τs)
        (ap₂ (λ (x y : ℕ). x + y) o.1 (sym reads-variables))
        (sym found_are)

    -- the residual with so many instances
    abbrev pub residual : (τs : List (List ℤ)) → Tree
    residual τs =
        joined b (append (bodies table log f ρ τs) (cond (closed c table) nil (cons (quantifier b v (excluded ++ τs) (put c ρ) (put f ρ)) nil)))

    reduce-is : residual found ≡ reduce table (rows log) (quantifier b v excluded c f) ρ
    unfolding reduce
    reduce-is = ap residual found_are

    -- the places ran out
    pub quantifier-short :
        (places : ℕ) {before after : Words} (w : Walked) →
        places < listed table log scope u c ρ + needs table log f ρ found →
        length after ≡ length before → w.answer ≡ Short →
        Reduces table log (quantifier b v excluded c f) ρ places next before after w
    quantifier-short places {before} {after} w few l e = record {
      answers = subst (λ (r : Reduced). Answers places (need table (rows log) (quantifier b v excluded c f) ρ) (reduce table (rows log) (quantifier b v excluded c f) ρ) before after r) (sym e)
          (answers-short (omega (arith, need-is)) l);
      behind = λ n. absurd (n e);
    }

    -- what was prepared
    pub prepared_short :
        (places : ℕ) (scratch : Words) (r : Option Placed) → r ≡ None → Prepares table words log level scope at u held places scratch r →
        places < listed table log scope u c ρ + needs table log f ρ found
    prepared_short places scratch r e t =
        let few : places < listed table log scope u c ρ
        = subst (InstancesTell table words log scope u at c ρ body_at places scratch) e (t ρ c body_at o restriction-here) in
        omega arith

    pub prepared_stood :
        (places : ℕ) (scratch : Words) (r : Option Placed) (p : Placed) → r ≡ Some p → Prepares table words log level scope at u held places scratch r →
        InstancesStand table words log scope u at c ρ body_at places scratch p
    prepared_stood places scratch r p e t =
        subst (InstancesTell table words log scope u at c ρ body_at places scratch) e (t ρ c body_at o restriction-here)

    -- what was worked out at the instances
    pub worked_out :
        (places left : ℕ) (scratch after : Words) (p : Placed) (w : Worked) →
        InstancesStand table words log scope u at c ρ body_at places scratch p →
        ((ρ : List ℤ) (found : List (List ℤ)) (f : Tree) (next : ℕ) → Outer held scope ρ → Found scratch scope p.from u p.count found →
        Node table words formula level (scope + u) p.body f next → Works b table log f ρ found left next after w) →
        Works b table log f ρ found left next after w
    worked_out places left scratch after p w s works =
        works ρ found f next o s.found (subst (λ (n : ℕ). Node table words formula level (scope + u) n f next) (sym s.behind) body-here)

    -- the bodies and the last part are joined
    pub quantifier-whole :
        (places used left : ℕ) {before between after : Words} (r : Reduced) (end : ℕ) →
        left ≡ places - used → used ≡ listed table log scope u c ρ → used ≤ places →
        length between ≡ length before →
        Answers left (needs table log f ρ found) (residual found) between after r →
        end ≡ next →
        Reduces table log (quantifier b v excluded c f) ρ places next before after (record { answer = r; next = end })
    quantifier-whole places used left {before} {between} {after} r end is-left counted fits l a ends =
        let a' = answers-from {before = before} l (subst (λ (n : ℕ). Answers n (needs table log f ρ found) (residual found) between after r) is-left a) in
        record {
          answers =
              subst (λ (n : ℕ). Answers places n (reduce table (rows log) (quantifier b v excluded c f) ρ) before after r)
              (ap (λ (n : ℕ). n + needs table log f ρ found) counted ∙ sym need-is)
              (subst (λ (t : Tree). Answers places (used + needs table log f ρ found) t before after r) reduce-is
              (record { is = a'.is ∙ told_more places used (needs table log f ρ found) (length before) (residual found) fits; long = a'.long; words = a'.words }));
          behind = λ _. ends;
        }

    -- the tuples stand still
    pub found-kept :
        (scratch now : Words) (from k used : ℕ) → from + k ≤ used → take (17 * used) now ≡ take (17 * used) scratch →
        Found scratch scope from u k found → Found now scope from v k found
    found-kept scratch now from k used below kept s = record {
      many = s.many;
      stands = λ j h.
          part_same (17 * (from + j) + scope) v (17 * used) now scratch (omega (arith, variables-few, reads-variables)) kept
          ∙ subst (λ (n : ℕ). take n (drop (17 * (from + j) + scope) scratch) ≡ get_or found j []) reads-variables (s.stands j h);
    }

    -- what is concluded
    abbrev pub concluding :
        (scratch now out : Words) (from k used places body : ℕ) (w : Worked) (below : from + k ≤ used)
        (kept : take (17 * used) now ≡ take (17 * used) scratch) (s : Found scratch scope from u k found) (is_Is_body : body ≡ body_at)
        (works : Works b table log f ρ found places next out w) (e : w.join.state ≡ S.Short → ⊥) →
        Concluding table words now out held scope at body w.next from k w.join
    concluding scratch now out from k used places body w below kept s is_Is_body works e = record {
      b = b;
      level = level;
      v = v;
      excluded = excluded;
      c = c;
      f = f;
      stands = subst (λ (n : ℕ). Quantified table words b level scope at v excluded c f n) (sym (works.behind e)) q;
      splits = is_Is_body;
      ρ = ρ;
      outer = o;
      tuples = found;
      found = found-kept scratch now from k used below kept s;
      ts = bodies table log f ρ found;
      need = needs table log f ρ found;
      places = places;
      state = works.whole e;
    }

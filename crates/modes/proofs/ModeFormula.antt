-- The mode rule over a formula that stands at a place: its tag, its level and its own words; and what comes of it, by its
-- tag, from what comes of the nodes below.
use Prim.Native.Nat.{ℕ, ◌+◌, ◌*◌, ◌≤◌}
use native.Mathlib.Omega.{arith}
use native.Mathlib.Nat.{add_assoc}
use mathlib.Core.Path.{◌≡◌, sym, ap, ◌∙◌, subst}
use mathlib.Core.Bool.{Bool, true, true≢false}
use mathlib.Core.List.{List}
use lib.ListN.{length}
use lib.IntN.{ℤ, nat_abs}
use Rattle.model.specs.Words.{Words, value, scope_limit}
use Rattle.model.specs.Answer.{Outcome}
use Rattle.model.specs.Tag.{Tag}
use Rattle.model.specs.Tree.{Tree, Trees, plain, atom, compare, join, quantifier, some, count}
use Rattle.model.specs.Level.{Role, under, quantifier_cost, cost}
use Rattle.model.specs.Reading.{is_formula, own}
use Rattle.model.specs.Mode.{size, ask_modes, ask_modes_all}
use Rattle.laws.specs.Reading.Formed.{Formed}
use Rattle.laws.specs.Reading.Nodes.{Node, Nodes, under-kind}
use Rattle.laws.specs.Reading.Parts.{root, root_tag, plain-parts, atom-parts, compare-parts, join-parts, quantifier-parts}
use Rattle.std.specs.Prelude.{Result, Ok}
use Rattle.model.specs.declared.Refused.{Refused}
use Rattle.policies.specs.Standing.{HereAll}
use Rattle.modes.specs.Mode.{HereBoth, Both, told_modes, Asks, AsksAll, AsksBoth, ask_both}
use Rattle.policies.proofs.Standing.{has}
use Rattle.policies.proofs.Stood.{Stood}

-- the tags of formulas with no node below them, and those that no formula has
abbrev pub Leaf : (tag : Tag) → Type 0
Leaf (Tag.plain b) = Unit {0}
Leaf (Tag.atom b) = Unit {0}
Leaf (Tag.compare b) = Unit {0}
Leaf (Tag.join b) = ⊥
Leaf (Tag.quantifier b) = ⊥
Leaf Tag.some = Unit {0}
Leaf Tag.unused = Unit {0}

module _ {table words : Words} {role : Role} {above scope at : ℕ} {tag : Tag} {level next : ℕ}
    (node : Stood table words role above scope at tag level next) where
  abbrev Tree-at : Tree → ℕ → Type 0
  Tree-at tree end = Node table words role above scope at tree end

  -- an all-of or any-of
  module _ {b : Bool} (e : tag ≡ Tag.join b) {below : Role} (inside : below ≡ under role b) {n : ℕ}
      (number : n ≡ value words (at + 1)) where
    pub join-kind : is_formula below ≡ true
    join-kind = ap is_formula inside ∙ under-kind role b ∙ node.kind

    children :
        (ts : Trees) (end : ℕ) → Tree-at (join b ts) end →
        (count ts ≡ n) × Nodes table words below level scope next ts end
    unfolding value own cost
    children ts end stood =
        let a = join-parts table words role above scope at end b ts stood in
        let depth : level ≡ above + 1 = node.deep ∙ ap (λ (t : Tag). above + cost role t) e in
        let start : next ≡ at + 2 = node.first ∙ ap (λ (t : Tag). at + (own words t role scope at).size) e in
        (sym (number ∙ ap nat_abs a.number), rw (inside, depth, start) a.children)

    pub join-here : HereAll table words below level scope n next
    join-here =
        let (tree, end, stood) = node.here in
        let (ts, is) = has table words role above scope at (Tag.join b) (sym e ∙ node.known) tree end stood in
        let parts = children ts end (subst (λ (t : Tree). Tree-at t end) is stood) in
        (ts, end, parts.0, parts.1)

    same-join : (ts : Trees) → ask_modes_all ts table scope next ≡ ask_modes (join b ts) table scope at
    unfolding ask_modes own
    same-join ts =
        ap (ask_modes_all ts table scope) (node.first ∙ ap (λ (t : Tag). at + (own words t role scope at).size) e)

    pub join_asks : {r : Result ℕ Refused} → AsksAll table words below level scope n next r → Asks table words role above scope at r
    join_asks {r} h tree end stood =
        let (ts, is) = has table words role above scope at (Tag.join b) (sym e ∙ node.known) tree end stood in
        let parts = children ts end (subst (λ (t : Tree). Tree-at t end) is stood) in
        h ts end parts.1 parts.0
        ∙ ap (λ (o : Outcome (Unit {0})). told_modes o end) (same-join ts)
        ∙ ap (λ (t : Tree). told_modes (ask_modes t table scope at) end) (sym is)

  -- a quantifier
  module _ {b : Bool} (e : tag ≡ Tag.quantifier b) {v : ℕ} (number : v ≡ value words (at + 1)) where
    abbrev QTree : ℕ → List (List ℤ) → Tree → Tree → Tree
    QTree u excluded c f = quantifier b u excluded c f

    own-variables : (u : ℕ) (excluded : List (List ℤ)) (c f : Tree) (end : ℕ) → Tree-at (QTree u excluded c f) end → v ≡ u
    unfolding value
    own-variables u excluded c f end stood =
        number ∙ ap nat_abs (quantifier-parts table words role above scope at end b u excluded c f stood).variables

    start :
        (u : ℕ) (excluded : List (List ℤ)) (c f : Tree) (end : ℕ) → Tree-at (QTree u excluded c f) end →
        next ≡ at + 3 + u * length excluded
    unfolding value own
    start u excluded c f end stood =
        let a = quantifier-parts table words role above scope at end b u excluded c f stood in
        node.first
        ∙ ap (λ (t : Tag). at + (own words t role scope at).size) e
        ∙ rw (a.variables, a.number) (sym (add_assoc at 3 (u * length excluded)))

    parts :
        (u : ℕ) (excluded : List (List ℤ)) (c f : Tree) (end : ℕ) → Tree-at (QTree u excluded c f) end →
        Both table words level (scope + v) next c f end
    unfolding cost size
    parts u excluded c f end stood =
        let a = quantifier-parts table words role above scope at end b u excluded c f stood in
        let depth : level ≡ above + quantifier_cost role b = node.deep ∙ ap (λ (t : Tag). above + cost role t) e in
        rw (depth, start u excluded c f end stood, own-variables u excluded c f end stood)
        (record { restricts = a.restricts; body = a.body })

    pub quantifier-range : scope + v ≤ scope_limit
    unfolding Formed
    quantifier-range =
        let (tree, end, stood) = node.here in
        let (u, excluded, c, f, is) = has table words role above scope at (Tag.quantifier b) (sym e ∙ node.known) tree end stood in
        let stood' = subst (λ (t : Tree). Tree-at t end) is stood in
        omega (arith, own-variables u excluded c f end stood', stood'.formed.4)

    pub quantifier-here : HereBoth table words level (scope + v) next
    quantifier-here =
        let (tree, end, stood) = node.here in
        let (u, excluded, c, f, is) = has table words role above scope at (Tag.quantifier b) (sym e ∙ node.known) tree end stood in
        (c, f, end, parts u excluded c f end (subst (λ (t : Tree). Tree-at t end) is stood))

    same-quantifier :
        (u : ℕ) (excluded : List (List ℤ)) (c f : Tree) (end : ℕ) → Tree-at (QTree u excluded c f) end →
        ask_both c f table scope v at next ≡ ask_modes (QTree u excluded c f) table scope at
    unfolding ask_modes ask_both
    same-quantifier u excluded c f end stood =
        rw (start u excluded c f end stood, own-variables u excluded c f end stood)

    pub quantifier_asks : {r : Result ℕ Refused} → AsksBoth table words level scope v at next r → Asks table words role above scope at r
    quantifier_asks {r} h tree end stood =
        let (u, excluded, c, f, is) = has table words role above scope at (Tag.quantifier b) (sym e ∙ node.known) tree end stood in
        let stood' = subst (λ (t : Tree). Tree-at t end) is stood in
        h c f end (parts u excluded c f end stood')
        ∙ ap (λ (o : Outcome (Unit {0})). told_modes o end) (same-quantifier u excluded c f end stood')
        ∙ ap (λ (t : Tree). told_modes (ask_modes t table scope at) end) (sym is)

-- a node with no node below it
module _ (table words : Words) (role : Role) (above scope at : ℕ) (kind : is_formula role ≡ true) where
  leaf-tree :
      (tree : Tree) (end : ℕ) → Leaf (root tree) → Node table words role above scope at tree end →
      Ok (at + (own words (root tree) role scope at).size) ≡ told_modes (ask_modes tree table scope at) end
  unfolding told_modes ask_modes own root value Formed
  leaf-tree (plain b) end l stood = ap Ok (sym (plain-parts table words role above scope at end b stood))
  leaf-tree (atom b p ts) end l stood =
      let a = atom-parts table words role above scope at end b p ts stood in
      ap Ok (rw a.number (sym (a.ends ∙ add_assoc at 3 (2 * length ts))))
  leaf-tree (compare b d x y) end l stood =
      ap Ok (sym (compare-parts table words role above scope at end b d x y stood).ends)
  leaf-tree (join b ts) end l stood = absurd l
  leaf-tree (quantifier b v excluded c f) end l stood = absurd l
  leaf-tree (some c) end l stood = absurd (true≢false (sym kind ∙ stood.formed.0))

module _ {table words : Words} {role : Role} {above scope at : ℕ} {tag : Tag} {level next : ℕ}
    (node : Stood table words role above scope at tag level next) where
  pub leaf_asks : Leaf tag → Asks table words role above scope at (Ok next)
  leaf_asks l tree end stood =
      let is : tag ≡ root tree = node.known ∙ root_tag table words role above scope at end tree stood in
      ap Ok (node.first ∙ ap (λ (t : Tag). at + (own words t role scope at).size) is)
      ∙ leaf-tree table words role above scope at node.kind tree end (subst Leaf is l) stood

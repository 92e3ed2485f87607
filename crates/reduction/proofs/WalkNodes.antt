-- The reduction of a formula that stands at an index, by its tag: what its parts ask, and what comes of it.
use Prim.Native.Nat.{ℕ, ◌+◌, ◌*◌, ◌≤◌}
use native.Mathlib.Nat.{add_assoc}
use mathlib.Core.Path.{◌≡◌, refl, sym, ap, ◌∙◌, subst}
use mathlib.Core.Bool.{Bool, true, true≢false}
use lib.ListN.{length}
use lib.IntN.{nat_abs}
use Rattle.model.specs.Words.{Words, value, scope_limit}
use Rattle.model.specs.Log.{rows}
use Rattle.model.specs.Tag.{Tag}
use Rattle.model.specs.Tree.{Tree, Trees, join, count}
use Rattle.model.specs.Level.{Role, restriction, formula, operand, under, quantifier_cost, cost}
use Rattle.model.specs.Reading.{is_formula, own}
use Rattle.model.specs.Reduction.{reduce, need}
use Rattle.laws.specs.Reading.Formed.{Formed}
use Rattle.laws.specs.Reading.Nodes.{Node, Nodes}
use Rattle.laws.specs.Reading.Parts.{plain-parts, atom-parts, compare-parts, join-parts}
use Rattle.policies.specs.Standing.{HereAll}
use Rattle.policies.proofs.Standing.{has}
use Rattle.policies.proofs.Stood.{Stood}
use Rattle.environments.specs.declared.environment.Environment.{Environment}
use Rattle.joining.specs.declared.answer.Reduced.{Reduced}
use Rattle.joining.specs.declared.answer.Reduced.TheVariants.{Plain}
use Rattle.reduction.specs.declared.walk.Walked.{Walked}
use Rattle.nodes.specs.Ground.{HereLiteral, HereCompare, ReducesAtom, ReducesCompare}
use Rattle.reduction.specs.Walk.{Reduces, ReducesNode, ReducesJoin, HereQuantified, ReducesQuantifier}
use Rattle.joining.proofs.Answering.{answers-plain}
use Rattle.nodes.proofs.GroundLaws.{compare-answers}

-- a formula under an all-of or any-of is an operand of it
operand-under : (role : Role) (b : Bool) → is_formula role ≡ true → operand b ≡ under role b
unfolding under is_formula
operand-under restriction b k = absurd (true≢false (sym k))
operand-under formula b k = refl
operand-under (operand a) b k = refl

module _ {table words : Words} {role : Role} {above scope at : ℕ} {tag : Tag} {level next : ℕ}
    (node : Stood table words role above scope at tag level next) where
  abbrev Stands : Tree → ℕ → Type 0
  Stands t end = Node table words role above scope at t end

  same-node : {t u : Tree} {end : ℕ} → t ≡ u → Stands t end → Stands u end
  same-node {end = end} e s = subst (λ (t : Tree). Stands t end) e s

  -- how many words the node's own are
  own-words : {other : Tag} → tag ≡ other → next ≡ at + (own words other role scope at).size
  own-words e = node.first ∙ ap (λ (t : Tag). at + (own words t role scope at).size) e

  -- what its parts ask: an atom
  pub atom-here : {b : Bool} → tag ≡ Tag.atom b → HereLiteral table words scope b at
  atom-here {b} e =
      let (t, end, s) = node.here in
      let (p, ts, is) = has table words role above scope at (Tag.atom b) (sym e ∙ node.known) t end s in
      (role, above, p, ts, end, same-node is s)

  -- a comparison
  pub compare-here : {b : Bool} → scope ≤ scope_limit → tag ≡ Tag.compare b → HereCompare words b at
  compare-here {b} small e =
      let (t, end, s) = node.here in
      let (d, x, y, is) = has table words role above scope at (Tag.compare b) (sym e ∙ node.known) t end s in
      (table, role, above, scope, small, d, x, y, end, same-node is s)

  -- an all-of or any-of
  module _ {b : Bool} (e : tag ≡ Tag.join b) {n : ℕ} (number : n ≡ value words (at + 1)) where
    children-stand : (ts : Trees) (end : ℕ) → Stands (join b ts) end → (count ts ≡ n) × Nodes table words (operand b) level scope next ts end
    unfolding value own cost
    children-stand ts end s =
        let a = join-parts table words role above scope at end b ts s in
        let depth : level ≡ above + 1 = node.deep ∙ ap (λ (t : Tag). above + cost role t) e in
        let start : next ≡ at + 2 = own-words e in
        (sym (number ∙ ap nat_abs a.number), rw (operand-under role b node.kind, depth, start) a.children)

    pub join-here : HereAll table words (operand b) level scope n next
    join-here =
        let (t, end, s) = node.here in
        let (ts, is) = has table words role above scope at (Tag.join b) (sym e ∙ node.known) t end s in
        let (many, stand) = children-stand ts end (same-node is s) in
        (ts, end, many, stand)

  -- a quantifier
  module _ {b : Bool} (e : tag ≡ Tag.quantifier b) where
    deep : level ≡ above + quantifier_cost role b
    unfolding cost
    deep = node.deep ∙ ap (λ (t : Tag). above + cost role t) e

    pub quantifier-here : HereQuantified table words b level scope at
    quantifier-here =
        let (t, end, s) = node.here in
        let (v, excluded, c, f, is) = has table words role above scope at (Tag.quantifier b) (sym e ∙ node.known) t end s in
        (v, excluded, c, f, end, record { role = role; above = above; cost = deep; node = same-node is s })

  -- what comes of it
  module _ (log : Words) {held : Environment} {places : ℕ} where
    -- plain
    pub node-plain : {b : Bool} → tag ≡ Tag.plain b → {out : Words} → ReducesNode table words log role above scope at held places out out (record { answer = Plain b; next = next })
    unfolding reduce need own
    node-plain {b} e {out} ρ t end o s =
        let is = has table words role above scope at (Tag.plain b) (sym e ∙ node.known) t end s in
        subst (λ (u : Tree). Reduces table log u ρ places end out out (record { answer = Plain b; next = next })) (sym is)
        (record {
          answers = answers-plain b out places;
          behind = λ _. own-words e ∙ sym (plain-parts table words role above scope at end b (same-node is s));
        })

    -- an atom
    pub node-atom :
        {b : Bool} → tag ≡ Tag.atom b → {before after : Words} {r : Reduced} →
        ReducesAtom table words log held scope b at before after r →
        ReducesNode table words log role above scope at held places before after (record { answer = r; next = next })
    unfolding need own value
    node-atom {b} e {before} {after} {r} reduced ρ t end o s =
        let (p, ts, is) = has table words role above scope at (Tag.atom b) (sym e ∙ node.known) t end s in
        let s' = same-node is s in
        let a = atom-parts table words role above scope at end b p ts s' in
        subst (λ (u : Tree). Reduces table log u ρ places end before after (record { answer = r; next = next })) (sym is)
        (record {
          answers = reduced ρ o role above p ts end s' places;
          behind = λ _. own-words e ∙ rw a.number (sym (a.ends ∙ add_assoc at 3 (2 * length ts)));
        })

    -- a comparison
    pub node-compare :
        {b : Bool} → tag ≡ Tag.compare b → {out : Words} {r : Reduced} →
        ReducesCompare words held b at r →
        ReducesNode table words log role above scope at held places out out (record { answer = r; next = next })
    unfolding need own
    node-compare {b} e {out} {r} reduced ρ t end o s =
        let (d, x, y, is) = has table words role above scope at (Tag.compare b) (sym e ∙ node.known) t end s in
        let s' = same-node is s in
        subst (λ (u : Tree). Reduces table log u ρ places end out out (record { answer = r; next = next })) (sym is)
        (record {
          answers = compare-answers table (rows log) b d x y ρ r (reduced ρ scope o table role above d x y end s') out places;
          behind = λ _. own-words e ∙ sym (compare-parts table words role above scope at end b d x y s').ends;
        })

    -- an all-of or any-of
    pub node-join :
        {b : Bool} → tag ≡ Tag.join b → {n : ℕ} → n ≡ value words (at + 1) → {before after : Words} {r : Walked} →
        ReducesJoin b table words log level scope n next held places before after r →
        ReducesNode table words log role above scope at held places before after r
    node-join {b} e {n} number {before} {after} {r} reduced ρ t end o s =
        let (ts, is) = has table words role above scope at (Tag.join b) (sym e ∙ node.known) t end s in
        let (many, stand) = children-stand e number ts end (same-node is s) in
        subst (λ (u : Tree). Reduces table log u ρ places end before after r) (sym is) (reduced ρ ts end o stand many)

    -- a quantifier
    pub node-quantifier :
        {b : Bool} → tag ≡ Tag.quantifier b → {before after : Words} {r : Walked} →
        ReducesQuantifier b table words log level scope at held places before after r →
        ReducesNode table words log role above scope at held places before after r
    node-quantifier {b} e {before} {after} {r} reduced ρ t end o s =
        let (v, excluded, c, f, is) = has table words role above scope at (Tag.quantifier b) (sym e ∙ node.known) t end s in
        subst (λ (u : Tree). Reduces table log u ρ places end before after r) (sym is)
        (reduced ρ v excluded c f end o (record { role = role; above = above; cost = deep e; node = same-node is s }))

    -- no formula has another tag
    pub node-some : tag ≡ Tag.some → {before after : Words} {r : Walked} → ReducesNode table words log role above scope at held places before after r
    unfolding Formed
    node-some e ρ t end o s =
        let (c, is) = has table words role above scope at Tag.some (sym e ∙ node.known) t end s in
        absurd (true≢false (sym node.kind ∙ (same-node is s).formed.0))

    pub node-unused : tag ≡ Tag.unused → {before after : Words} {r : Walked} → ReducesNode table words log role above scope at held places before after r
    node-unused e ρ t end o s = absurd (has table words role above scope at Tag.unused (sym e ∙ node.known) t end s)

-- Ground atoms and comparisons under the environment that binds the outer variables alone: the numbers of their terms, what
-- the code asks of their words in any role, and their answers. The environment with one outer variable more is a bound one.
use Prim.Native.Nat.{ℕ, zero, suc, ◌+◌, ◌*◌, ◌-◌, ◌^◌, ◌≤◌, ◌<◌}
use native.Mathlib.Omega.{arith}
use native.Mathlib.Nat.{add-zero}
use native.Mathlib.Numerals.{add-one}
use borrow.Rule.Slice.PartMut.{put_mid}
use Rattle.std.proofs.lemmas.Slice.{put_mid-paste}
use mathlib.Core.Path.{◌≡◌, refl, sym, ap, ap₂, ◌∙◌, fun_ext, subst}
use mathlib.Core.Logic.{⊎_elim}
use mathlib.Core.Bool.{Bool, true}
use mathlib.Core.List.{List, [], ◌∷◌, ◌++◌, map, append_assoc, append-nil}
use lib.ListN.{set, replicate, length-replicate, get_or-replicate, length, get_or, take, drop, length-append, length-drop, get_or-append, get_or-eq_default}
use lib.Seq.{paste, paste-zero, paste-suc, ext_get_or, get_or-take, get_or-drop, get_or_at, take-suc, take_at, length-take-le}
use lib.IntN.{ℤ, pos, nat_abs}
use Rattle.model.specs.Words.{Words, word, value, same}
use Rattle.model.specs.Lists.{all}
use Rattle.model.specs.Log.{Value, rows, value_in}
use Rattle.model.specs.Tree.{Term, constant, variable, Tree, plain, atom, compare, encode}
use Rattle.model.specs.Level.{Role, restriction, greatest}
use Rattle.model.specs.Reading.{places, term_at, in_scope}
use Rattle.model.specs.Truth.{number_of, sum_at_most}
use Rattle.model.specs.Listing.{bound, Environment, outer, bind, number_in, look, numbers_in}
use Rattle.model.specs.Putting.{put}
use Rattle.model.specs.Reduction.{settle, reduce}
use Rattle.laws.specs.Lists.Span.{order, side, map_same}
use Rattle.laws.specs.Listing.Fitting.{bind-same, bind-other}
use Rattle.laws.specs.Listing.Outer.{outer-bound, outer-free}
use Rattle.laws.specs.Putting.Modes.{terms-length, put-length}
use Rattle.laws.specs.Putting.Parts.{put-nil}
use Rattle.laws.specs.Reading.Formed.{Formed}
use Rattle.laws.specs.Reading.Nodes.{Node}
use Rattle.laws.specs.Reading.Parts.{root, root_tag, compare-parts}
use Rattle.laws.specs.Words.Standing.{stands_taken, three_stand}
use Rattle.std.specs.Prelude.{Option, Some, None}
use Rattle.logs.specs.Value.{as_value}
use Rattle.policies.specs.Standing.{HereTerms}
use Rattle.policies.proofs.Standing.{here-terms, here-compare}
use Rattle.trees.specs.Grown.{Grown, Room-at}
use Rattle.words.specs.Laying.{laid}
use Rattle.environments.proofs.Places.{held-bind}
use Rattle.trees.proofs.Forming.{node_grown}
use Rattle.environments.specs.declared.environment.Environment.{Environment as Held}
use Rattle.environments.specs.Environment.{numbers_of, Holds}
use Rattle.matching.specs.Lookup.{Values}
use Rattle.environments.proofs.Places.{numbers-length, number_at}
use Rattle.environments.proofs.TermLaws.{sum_same}
use Rattle.joining.specs.declared.answer.Reduced.{Reduced}
use Rattle.joining.specs.declared.answer.Reduced.TheVariants.{Plain, Long, Part}
use Rattle.joining.specs.Answer.{Answers}
use Rattle.nodes.specs.Ground.{Outer, HereLiteral, GrownAtom, HereCompare, Stays, ReducesAtom, ReducesCompare}
use Rattle.joining.proofs.Parts.{Solid}
use Rattle.joining.proofs.Answering.{answers-plain, answers-long, answers-part}

-- the number of an outer variable, 0 past the outer ones
outer-number : (ρ : List ℤ) (x : ℕ) → number_in (outer ρ x) ≡ get_or ρ x (pos 0)
unfolding number_in
outer-number ρ x =
    ⊎_elim
    (λ h. ap number_in (outer-bound ρ x h))
    (λ h. ap number_in (outer-free ρ x h) ∙ sym (get_or-eq_default ρ (pos 0) h))
    (side (length ρ) x)

-- the number of a term, and those of terms
pub term-number : (ρ : List ℤ) (t : Term) → number_in (look (outer ρ) t) ≡ number_of ρ t
unfolding look number_of number_in
term-number ρ (constant k) = refl
term-number ρ (variable x) = outer-number ρ x

pub terms-numbers : (ρ : List ℤ) (ts : List Term) → numbers_in (outer ρ) ts ≡ map (number_of ρ) ts
unfolding numbers_in
terms-numbers ρ ts = map_same (λ t. number_in (look (outer ρ) t)) (number_of ρ) ts (λ t m. term-number ρ t)

-- the first numbers of the code's environment are those of the outer variables
pub outer-numbers : {held : Held} {scope : ℕ} {ρ : List ℤ} → scope ≤ 16 → Outer held scope ρ → take scope held.numbers ≡ ρ
outer-numbers {held} {scope} {ρ} small o =
    let ns = numbers_of (outer ρ) in
    let long : length (take scope ns) ≡ scope = length-take-le scope ns (omega (arith, numbers-length (outer ρ))) in
    ap (take scope) o.0.numbers
    ∙ ext_get_or (pos 0) (take scope ns) ρ (long ∙ sym o.1) (λ x h.
    let l : x < scope = omega arith in
    get_or-take scope ns x (pos 0) l ∙ number_at (outer ρ) x (omega arith) ∙ outer-number ρ x)

-- it binds them to its own first numbers
pub outer-own : {held : Held} {scope : ℕ} (ρ : List ℤ) → scope ≤ 16 → Outer held scope ρ → Outer held scope (take scope held.numbers)
outer-own {held} {scope} ρ small o = subst (Outer held scope) (sym (outer-numbers small o)) o

-- one outer variable more
bind-outer : (ρ : List ℤ) (k : ℤ) → bind (outer ρ) (length ρ) k ≡ outer (ρ ++ k ∷ [])
bind-outer ρ k = fun_ext (λ y.
    let more = length-append ρ (k ∷ []) in
    ⊎_elim
    (λ h.
    bind-other (outer ρ) (length ρ) k y (λ q. omega arith)
    ∙ outer-bound ρ y h
    ∙ sym (outer-bound (ρ ++ k ∷ []) y (omega arith) ∙ ap bound (get_or-append ρ (k ∷ []) (pos 0) y h)))
    (λ g.
    ⊎_elim
    (λ q.
    ap (bind (outer ρ) (length ρ) k) q
    ∙ bind-same (outer ρ) (length ρ) k
    ∙ sym (outer-bound (ρ ++ k ∷ []) y (omega arith) ∙ ap bound (get_or_at ρ k [] (pos 0) y (sym q))))
    (λ h.
    bind-other (outer ρ) (length ρ) k y (λ q. omega arith)
    ∙ outer-free ρ y (omega arith)
    ∙ sym (outer-free (ρ ++ k ∷ []) y (omega arith)))
    g)
    (order y (length ρ)))

pub outer-more :
    {held after : Held} {scope : ℕ} (ρ : List ℤ) (k : ℤ) (x : ℕ) →
    x ≡ scope →
    ((e : Environment) → Holds held e → Holds after (bind e x k)) →
    Outer held scope ρ →
    Outer after (scope + 1) (ρ ++ k ∷ [])
outer-more {held} {after} {scope} ρ k x is more o = (
  subst (Holds after) (ap (λ (y : ℕ). bind (outer ρ) y k) (is ∙ sym o.1) ∙ bind-outer ρ k) (more (outer ρ) o.0),
  length-append ρ (k ∷ []) ∙ ap (λ (n : ℕ). n + 1) o.1,
)

-- the environment after i variables more, the numbers of which stand in scratch from an index on
abbrev pub Binding : (scratch : Words) (from scope : ℕ) (start held : Held) (i : ℕ) → Type 0
Binding scratch from scope start held i =
    (ρ : List ℤ) → Outer start scope ρ → Outer held (scope + i) (ρ ++ take i (drop from scratch))

pub binding-none : (scratch : Words) (from scope : ℕ) (start : Held) → Binding scratch from scope start start 0
binding-none scratch from scope start ρ o =
    subst (λ (n : ℕ). Outer start n (ρ ++ [])) (sym (add-zero scope))
    (subst (λ (σ : List ℤ). Outer start scope σ) (sym (append-nil ρ)) o)

pub binding-more :
    (scratch : Words) (from scope : ℕ) (start held after : Held) (i : ℕ) (k : ℤ) →
    from + i < length scratch →
    k ≡ get_or scratch (from + i) (pos 0) →
    ((e : Environment) → Holds held e → Holds after (bind e (scope + i) k)) →
    Binding scratch from scope start held i →
    Binding scratch from scope start after (i + 1)
binding-more scratch from scope start held after i k inside is more so ρ o =
    let part = drop from scratch in
    let next : take (i + 1) part ≡ take i part ++ (k ∷ [])
    = ap (λ (n : ℕ). take n part) (add-one i)
    ∙ take-suc part i (pos 0) (omega (arith, length-drop from scratch))
    ∙ ap (λ (z : ℤ). take i part ++ (z ∷ [])) (get_or-drop from scratch i (pos 0) ∙ sym is) in
    let count : scope + i + 1 ≡ scope + (i + 1) = omega arith in
    subst (λ (n : ℕ). Outer after n (ρ ++ take (i + 1) part)) count
    (subst (λ (σ : List ℤ). Outer after (scope + i + 1) σ)
    (append_assoc ρ (take i part) (k ∷ []) ∙ ap (λ (l : List ℤ). ρ ++ l) (sym next))
    (outer-more (ρ ++ take i part) k (scope + i) refl more (so ρ o)))

-- an atom or a comparison stands in any role as in a restriction
atom-restricts :
    (table words : Words) (role : Role) (above scope at : ℕ) (b : Bool) (p : ℕ) (ts : List Term) (next : ℕ) →
    Node table words role above scope at (atom b p ts) next →
    Node table words restriction above scope at (atom b p ts) next
unfolding Formed greatest
atom-restricts table words role above scope at b p ts next node =
    record { stands = node.stands; formed = node.formed; levels = node.levels }

compare-restricts :
    (table words : Words) (role : Role) (above scope at : ℕ) (b : Bool) (d : ℤ) (x y : Term) (next : ℕ) →
    Node table words role above scope at (compare b d x y) next →
    Node table words restriction above scope at (compare b d x y) next
unfolding Formed greatest
compare-restricts table words role above scope at b d x y next node =
    record { stands = node.stands; formed = node.formed; levels = node.levels }

-- what the code asks of its words
pub atom_asks :
    (table words : Words) (scope : ℕ) (b : Bool) (at : ℕ) →
    scope ≤ 16 →
    length words < 2 ^ 64 →
    HereLiteral table words scope b at →
    HereTerms words at
unfolding root
atom_asks table words scope b at small long (role, above, p, ts, next, node) =
    let node' = atom-restricts table words role above scope at b p ts next node in
    here-terms table words above scope at small b
    (sym (root_tag table words restriction above scope at next (atom b p ts) node'))
    (atom b p ts, next, node') long

pub atom_grown :
    (table words : Words) (scope : ℕ) (b : Bool) (at : ℕ) → HereLiteral table words scope b at → GrownAtom words at
atom_grown table words scope b at (role, above, p, ts, next, node) =
    (b, p, ts, next, node_grown table words role above scope at (atom b p ts) next node)

pub compare_asks :
    (words : Words) (b : Bool) (at : ℕ) →
    length words < 2 ^ 64 →
    HereCompare words b at →
    (at + 6 < 2 ^ 64) × (all (in_scope words 16) (places (at + 2) 2) ≡ true)
unfolding root
compare_asks words b at long (table, role, above, scope, small, d, x, y, next, node) =
    let node' = compare-restricts table words role above scope at b d x y next node in
    here-compare table words above scope at small b
    (sym (root_tag table words restriction above scope at next (compare b d x y) node'))
    (compare b d x y, next, node') long

-- an atom that stays, n being the number of terms that is read there
module _ (words : Words) (at n : ℕ) (is : n ≡ value words (at + 2)) where
  atom-size :
      (b : Bool) (p : ℕ) (ts : List Term) (next : ℕ) → Grown words at (atom b p ts) next → 3 + 2 * n ≡ length (encode (atom b p ts))
  unfolding encode value
  atom-size b p ts next g =
      let own = three_stand words _ _ _ _ g.stands in
      let many : n ≡ length ts = is ∙ ap nat_abs own.2 in
      omega (arith, terms-length ts)

  -- its words are no more than there are
  pub stay_fits : GrownAtom words at → at + (3 + 2 * n) ≤ length words
  stay_fits (b, p, ts, next, g) = omega (arith, atom-size b p ts next g, g.stands.ends, g.stands.fits)

  -- there is room for it
  pub stay_room : (room : ℕ) → 3 + 2 * n ≤ room → GrownAtom words at → Room-at words at room
  stay_room room h (b, p, ts, next, g) = (atom b p ts, next, g, omega (arith, atom-size b p ts next g))

  module _ (held : Held) (scope : ℕ) (before : Words) where
    pub stays_long : length before < 3 + 2 * n → Stays words held scope at before before Long
    unfolding put Solid
    stays_long h ρ o b p ts next g places =
        let size = atom-size b p ts next g in
        answers-long (put (atom b p ts) ρ) before tt (omega (arith, put-length (atom b p ts) ρ)) places

    pub stays_part :
        (after : Words) →
        scope ≤ 16 →
        3 + 2 * n ≤ length before →
        length after ≡ length before →
        ((tree : Tree) (next : ℕ) →
        Grown words at tree next →
        length (encode tree) ≤ length before →
        after ≡ encode (put tree (take scope held.numbers)) ++ drop (length (encode tree)) before) →
        Stays words held scope at before after (Part (3 + 2 * n))
    unfolding put Solid
    stays_part after small fits long copied ρ o b p ts next g places =
        let t = atom b p ts in
        let size = atom-size b p ts next g in
        let same = put-length t ρ in
        let is : after ≡ encode (put t ρ) ++ drop (length (encode t)) before
        = copied t next g (omega arith)
        ∙ ap (λ (σ : List ℤ). encode (put t σ) ++ drop (length (encode t)) before) (outer-numbers small o) in
        answers-part (put t ρ) before after (3 + 2 * n) tt (omega arith) fits long
        (ap (take (3 + 2 * n)) is ∙ take_at (encode (put t ρ)) _ (3 + 2 * n) (omega arith))
        places

    -- with no outer variable it is copied as it is
    pub stays_closed :
        (after : Words) →
        scope ≡ 0 →
        3 + 2 * n ≤ length before →
        length after ≡ length before →
        after ≡ laid before 0 (take (3 + 2 * n) (drop at words)) →
        Stays words held scope at before after (Part (3 + 2 * n))
    unfolding put Solid laid
    stays_closed after none fits long copied ρ o b p ts next g places =
        let t = atom b p ts in
        let size = atom-size b p ts next g in
        let same = put-length t ρ in
        let own : take (3 + 2 * n) (drop at words) ≡ encode (put t ρ)
        = ap (λ (k : ℕ). take k (drop at words)) size
        ∙ stands_taken words (encode t) g.stands
        ∙ ap encode (sym (put-nil t) ∙ ap (put t) (sym (no-numbers ρ (o.1 ∙ none)))) in
        answers-part (put t ρ) before after (3 + 2 * n) tt (omega arith) fits long
        (ap (take (3 + 2 * n)) (copied ∙ ap (λ (l : Words). l ++ drop (0 + length l) before) own) ∙ take_at (encode (put t ρ)) _ (3 + 2 * n) (omega arith))
        places
      where
        no-numbers : (σ : List ℤ) → length σ ≡ 0 → σ ≡ []
        no-numbers [] h = refl
        no-numbers (z ∷ σ) h = absurd (omega arith)

-- the reduction of an atom, by its value
module _
    (table words log : Words) (held : Held) (scope : ℕ) (b : Bool) (at : ℕ) (found : Option Bool)
    (values : Values table words log held at found) where
  outer-value :
      (ρ : List ℤ) →
      Outer held scope ρ →
      (role : Role) (above p : ℕ) (ts : List Term) (next : ℕ) →
      Node table words role above scope at (atom b p ts) next →
      as_value found ≡ value_in table (rows log) p (map (number_of ρ) ts)
  outer-value ρ o role above p ts next node =
      values (outer ρ) o.0 role above scope b p ts next node ∙ ap (value_in table (rows log) p) (terms-numbers ρ ts)

  pub reduces_known :
      (v r : Bool) → found ≡ Some v → same v b ≡ r → (out : Words) → ReducesAtom table words log held scope b at out out (Plain r)
  unfolding reduce settle
  reduces_known v r is e out ρ o role above p ts next node places =
      let told = outer-value ρ o role above p ts next node in
      let tree : reduce table (rows log) (atom b p ts) ρ ≡ plain r
      = ap (λ (x : Value). settle x b (put (atom b p ts) ρ)) (sym told ∙ ap as_value is) ∙ ap plain e in
      subst (λ (t : Tree). Answers places 0 t out out (Plain r)) (sym tree) (answers-plain r out places)

  pub reduces_open :
      found ≡ None →
      (before after : Words) (r : Reduced) →
      Stays words held scope at before after r →
      ReducesAtom table words log held scope b at before after r
  unfolding reduce settle
  reduces_open is before after r stays ρ o role above p ts next node places =
      let told = outer-value ρ o role above p ts next node in
      let tree : reduce table (rows log) (atom b p ts) ρ ≡ put (atom b p ts) ρ
      = ap (λ (x : Value). settle x b (put (atom b p ts) ρ)) (sym told ∙ ap as_value is) in
      subst (λ (t : Tree). Answers places 0 t before after r) (sym tree)
      (stays ρ o b p ts next (node_grown table words role above scope at (atom b p ts) next node) places)

-- the reduction of a comparison
pub reduces_compare :
    (words : Words) (held : Held) (b : Bool) (at : ℕ) (r : Bool) →
    ((e : Environment) →
    Holds held e →
    r ≡ sum_at_most (word words (at + 1)) (number_in (look e (term_at words (at + 2)))) (number_in (look e (term_at words (at + 4))))) →
    ReducesCompare words held b at (Plain (same b r))
reduces_compare words held b at r sum ρ scope o table role above d x y next node =
    let a = compare-parts table words role above scope at next b d x y node in
    let number : Term → ℤ = λ t. number_in (look (outer ρ) t) in
    ap (λ (z : Bool). Plain (same b z))
    (sum (outer ρ) o.0
    ∙ sum_same a.number (ap number a.left.term ∙ term-number ρ x) (ap number a.right.term ∙ term-number ρ y))

-- it is an answer in whatever words were lent
pub compare-answers :
    (table : Words) (rows : List Words) (b : Bool) (d : ℤ) (x y : Term) (ρ : List ℤ) (r : Reduced) →
    r ≡ Plain (same b (sum_at_most d (number_of ρ x) (number_of ρ y))) →
    (out : Words) (places : ℕ) →
    Answers places 0 (reduce table rows (compare b d x y) ρ) out out r
unfolding reduce
compare-answers table rows b d x y ρ r is out places =
    let v = same b (sum_at_most d (number_of ρ x) (number_of ρ y)) in
    subst (λ (a : Reduced). Answers places 0 (plain v) out out a) (sym is) (answers-plain v out places)

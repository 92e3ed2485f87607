-- The residual satisfies the rules of a policy, and reaches no deeper. By induction on the policy's tree.
use Rattle.std.specs.Prelude.{ℕ, ◌+◌, ◌≤◌, max, ◌≡◌, refl, Bool, false, length, ℤ}
use Rattle.std.proofs.Common.{zero-add, add-zero, sym, subst, inl, true≢false}
use native.Mathlib.Omega.{arith}
use Rattle.std.proofs.Math.Bool.{true}
use mathlib.Core.List.{List, [], ◌∷◌, ◌++◌, map, Memᴰ}
use Rattle.model.specs.Words.{Words, same, level_limit}
use Rattle.model.specs.Log.{Value, known, unknown, value_in}
use Rattle.model.specs.Tree.{Tree, Trees, plain, atom, compare, join, quantifier, some, nil, cons, count}
use Rattle.model.specs.Level.{Role, restriction, formula, operand, under, quantifier_cost, greatest, greatest_all}
use Rattle.model.specs.Truth.{number_of}
use Rattle.model.specs.Putting.{put}
use Rattle.model.specs.Joining.{joined, parts}
use Rattle.model.specs.Reduction.{settle, closed, instances, reduce, reduce_all}
use Rattle.laws.specs.Mode.{Moded, ModedAll, modes-moded, moded-modes}
use Rattle.laws.specs.Reading.Formed.{Formed, FormedAll, AllOfLength, Rules}
use Rattle.laws.specs.Putting.Parts.{put-formed, put-greatest}
use Rattle.laws.specs.Putting.Modes.{put-moded}
use Rattle.laws.specs.Joining.{All, joined_has, result-all}
use Rattle.laws.specs.Level.{Formal, Keeps, stand, own-cost, greatest-least, under_formal, tree_keeps, joined_keeps, up_keeps}
use Rattle.laws.specs.Reduction.Instances.{instances-length}
use Rattle.laws.specs.Reduction.Truth.{length_more}

-- an atom settles to a plain node or stays with its numbers put in
pub settle_has : (P : Tree → Type 0) → ((a : Bool) → P (plain a)) → (x : Value) (b : Bool) (t : Tree) → P t → P (settle x b t)
unfolding settle
settle_has P plainly (known a) b t h = plainly (same a b)
settle_has P plainly unknown b t h = h

-- questions 3, 5 and 6
module _ (table : Words) where
  all-formed : (ts : Trees) → All (λ t. Formed t table true 0) ts → FormedAll ts table true 0
  unfolding Formed
  all-formed nil h = tt
  all-formed (cons t ts) h = (h.0, all-formed ts h.1)

  formed-all : (ts : Trees) → FormedAll ts table true 0 → All (λ t. Formed t table true 0) ts
  unfolding Formed
  formed-all nil h = tt
  formed-all (cons t ts) h = (h.0, formed-all ts h.1)

  joined-formed : (b : Bool) (ts : Trees) → All (λ t. Formed t table true 0) ts → Formed (joined b ts) table true 0
  unfolding Formed count
  joined-formed b =
      joined_has (λ t. Formed t table true 0) b
      (λ a. tt)
      (λ ts h. formed-all ts h.1)
      (λ t u ts h. (omega arith, all-formed (cons t (cons u ts)) h))

  length-append-all : (v : ℕ) (l m : List (List ℤ)) → AllOfLength v l → ((τ : List ℤ) → Memᴰ τ m → length τ ≡ v) → AllOfLength v (l ++ m)
  unfolding AllOfLength
  length-append-all v [] [] h k = tt
  length-append-all v [] (τ ∷ m) h k = (k τ (Memᴰ.head refl), length-append-all v [] m tt (λ σ i. k σ (Memᴰ.tail i)))
  length-append-all v (τ ∷ l) m h k = (h.0, length-append-all v l m h.1 k)

  module _ (rows : List Words) where
    mutual
      unfolding reduce Formed Moded

      pub reduce-formed :
          (f : Tree) (ρ : List ℤ) →
          Formed f table true (length ρ) →
          Moded table f (length ρ) →
          Formed (reduce table rows f ρ) table true 0
      reduce-formed (plain b) ρ h m = tt
      reduce-formed (atom b p ts) ρ h m =
          settle_has (λ t. Formed t table true 0) (λ a. tt) _ b (put (atom b p ts) ρ)
          (put-formed table (atom b p ts) true ρ 0 (rw (add-zero (length ρ)) h))
      reduce-formed (compare b d x y) ρ h m = tt
      reduce-formed (join b ts) ρ h m = joined-formed b _ (reduce-formed-all ts ρ h.1 m)
      reduce-formed (quantifier b v excluded c f) ρ h m =
          let lengths : (τ : List ℤ) → Memᴰ τ (instances table rows v excluded c ρ) → length τ ≡ v
          = λ τ i. instances-length table rows v excluded c ρ i in
          joined-formed b _
          (result-all (λ t. Formed t table true 0) (λ τ. reduce table rows f (ρ ++ τ)) (instances table rows v excluded c ρ) (closed c table)
          (quantifier b v (excluded ++ instances table rows v excluded c ρ) (put c ρ) (put f ρ))
          (λ τ i.
          let e = length_more ρ τ (lengths τ i) in
          reduce-formed f (ρ ++ τ)
          (subst (λ (n : ℕ). Formed f table true n) (sym e) h.6)
          (subst (λ (n : ℕ). Moded table f n) (sym e) m.2)) (
            refl,
            h.1,
            h.2,
            length-append-all v excluded _ h.3 lengths,
            omega (arith, h.4),
            subst (λ (n : ℕ). Formed (put c ρ) table false n) (sym (zero-add v)) (put-formed table c false ρ v h.5),
            subst (λ (n : ℕ). Formed (put f ρ) table true n) (sym (zero-add v)) (put-formed table f true ρ v h.6),
          ))
      reduce-formed (some c) ρ h m = absurd (true≢false h.0)

      reduce-formed-all :
          (ts : Trees) (ρ : List ℤ) →
          FormedAll ts table true (length ρ) →
          ModedAll table ts (length ρ) →
          All (λ t. Formed t table true 0) (reduce_all table rows ts ρ)
      reduce-formed-all nil ρ h m = tt
      reduce-formed-all (cons t ts) ρ h m =
          (reduce-formed t ρ h.0 m.0, reduce-formed-all ts ρ h.1 m.1)

-- question 4: the residual keeps to every level that the policy keeps to
settle-greatest : (x : Value) (b : Bool) (t : Tree) (role : Role) (above n : ℕ) → above + 1 ≤ n → greatest t role above ≤ n → greatest (settle x b t) role above ≤ n
unfolding settle greatest
settle-greatest (known a) b t role above n h k = h
settle-greatest unknown b t role above n h k = k

last-greatest :
    (n : ℕ) (b : Bool) (a level v : ℕ) (excluded : List (List ℤ)) (c f : Tree) (ρ : List ℤ) →
    a + 1 ≡ level →
    max (greatest c restriction level) (greatest f formula level) ≤ n →
    greatest (quantifier b v excluded (put c ρ) (put f ρ)) (operand b) a ≤ n
unfolding greatest
last-greatest n b a level v excluded c f ρ e h =
    rw (own-cost b, e, put-greatest c ρ restriction level, put-greatest f ρ formula level) h

module _ (table : Words) (rows : List Words) (n : ℕ) where
  mutual
    unfolding reduce greatest Keeps parts

    pub reduce_keeps :
        (f : Tree) (ρ : List ℤ) (role : Role) (above : ℕ) →
        Formal role →
        greatest f role above ≤ n →
        Keeps n role above (reduce table rows f ρ)
    reduce_keeps (plain b) ρ role above fm h = tree_keeps n role above fm (plain b) h
    reduce_keeps (atom b p ts) ρ role above fm h =
        tree_keeps n role above fm (settle (value_in table rows p (map (number_of ρ) ts)) b (put (atom b p ts) ρ))
        (settle-greatest (value_in table rows p (map (number_of ρ) ts)) b (put (atom b p ts) ρ) role above n h
        (rw (put-greatest (atom b p ts) ρ role above) h))
    reduce_keeps (compare b d x y) ρ role above fm h = tree_keeps n role above fm (plain _) h
    reduce_keeps (join b ts) ρ role above fm h =
        joined_keeps n b above (above + 1) (omega arith) role fm (inl refl) _
        (reduce_keeps_all ts ρ b (above + 1) (let k : greatest_all ts (under role b) (above + 1) ≤ n = omega arith in rw (under_formal role b fm) at k))
    reduce_keeps (quantifier b v excluded c f) ρ role above fm h =
        let level = above + quantifier_cost role b in
        let st = stand role b above fm in
        joined_keeps n b above st.0 (let least = greatest-least c restriction level in omega arith) role fm st.2 _
        (result-all (λ t. All (λ u. greatest u (operand b) st.0 ≤ n) (parts b t)) (λ τ. reduce table rows f (ρ ++ τ)) (instances table rows v excluded c ρ) (closed c table)
        (quantifier b v (excluded ++ instances table rows v excluded c ρ) (put c ρ) (put f ρ))
        (λ τ i. up_keeps n b level st.0 (omega (arith, st.1)) (reduce table rows f (ρ ++ τ)) (reduce_keeps f (ρ ++ τ) formula level tt (omega arith)))
        (last-greatest n b st.0 level v (excluded ++ instances table rows v excluded c ρ) c f ρ st.1 h, tt))
    reduce_keeps (some c) ρ role above fm h =
        tree_keeps n role above fm (put (some c) ρ) (rw (put-greatest (some c) ρ role above) h)

    reduce_keeps_all :
        (ts : Trees) (ρ : List ℤ) (b : Bool) (above : ℕ) →
        greatest_all ts (operand b) above ≤ n →
        All (λ t. All (λ u. greatest u (operand b) above ≤ n) (parts b t)) (reduce_all table rows ts ρ)
    reduce_keeps_all nil ρ b above h = tt
    reduce_keeps_all (cons t ts) ρ b above h =
        (reduce_keeps t ρ (operand b) above tt (omega arith), reduce_keeps_all ts ρ b above (omega arith))

-- question 7, and all rules together
module _ (table : Words) (rows : List Words) where
  all-moded : (ts : Trees) → All (λ t. Moded table t 0) ts → ModedAll table ts 0
  unfolding Moded
  all-moded nil h = tt
  all-moded (cons t ts) h = (h.0, all-moded ts h.1)

  moded-all : (ts : Trees) → ModedAll table ts 0 → All (λ t. Moded table t 0) ts
  unfolding Moded
  moded-all nil h = tt
  moded-all (cons t ts) h = (h.0, moded-all ts h.1)

  joined-moded : (b : Bool) (ts : Trees) → All (λ t. Moded table t 0) ts → Moded table (joined b ts) 0
  unfolding Moded
  joined-moded b =
      joined_has (λ t. Moded table t 0) b (λ a. tt) moded-all (λ t u ts h. all-moded (cons t (cons u ts)) h)

  mutual
    unfolding reduce Moded put

    pub reduce-moded : (f : Tree) (ρ : List ℤ) → Moded table f (length ρ) → Moded table (reduce table rows f ρ) 0
    reduce-moded (plain b) ρ m = tt
    reduce-moded (atom b p ts) ρ m = settle_has (λ t. Moded table t 0) (λ a. tt) _ b (put (atom b p ts) ρ) tt
    reduce-moded (compare b d x y) ρ m = tt
    reduce-moded (join b ts) ρ m = joined-moded b _ (reduce-moded-all ts ρ m)
    reduce-moded (quantifier b v excluded c f) ρ m =
        joined-moded b _
        (result-all (λ t. Moded table t 0) (λ τ. reduce table rows f (ρ ++ τ)) (instances table rows v excluded c ρ) (closed c table)
        (quantifier b v (excluded ++ instances table rows v excluded c ρ) (put c ρ) (put f ρ))
        (λ τ i.
        reduce-moded f (ρ ++ τ)
        (subst (λ (n : ℕ). Moded table f n) (sym (length_more ρ τ (instances-length table rows v excluded c ρ i))) m.2))
        (put-moded ρ table (quantifier b v excluded c f) 0
        (subst (λ (n : ℕ). Moded table (quantifier b v excluded c f) n) (sym (add-zero (length ρ))) m)))
    reduce-moded (some c) ρ m = tt

    reduce-moded-all : (ts : Trees) (ρ : List ℤ) → ModedAll table ts (length ρ) → All (λ t. Moded table t 0) (reduce_all table rows ts ρ)
    reduce-moded-all nil ρ m = tt
    reduce-moded-all (cons t ts) ρ m = (reduce-moded t ρ m.0, reduce-moded-all ts ρ m.1)

  pub reduce-rules : (f : Tree) → Rules table f → Rules table (reduce table rows f [])
  unfolding Keeps
  reduce-rules f r =
      let m = modes-moded table f 0 0 r.modes in
      record {
        formed = reduce-formed table rows f [] r.formed m;
        levels = reduce_keeps table rows level_limit f [] formula 0 tt r.levels;
        modes = moded-modes table (reduce table rows f []) 0 0 (reduce-moded f [] m);
      }

  pub reduce-greatest : (f : Tree) → greatest (reduce table rows f []) formula 0 ≤ greatest f formula 0
  unfolding Keeps
  reduce-greatest f = reduce_keeps table rows (greatest f formula 0) f [] formula 0 tt (omega arith)

-- Words of 32 bits stay so: the residual of a policy whose words have 32 bits, over rows whose words have, is good by question 3, and
-- so its words have 32 bits, if they are no more than a policy can have. New constants and new excluded tuples come from the
-- environments that a listing makes, and these bind words of rows only.
use Rattle.std.specs.Prelude.{ℕ, zero, suc, ◌+◌, ◌-◌, ◌≤◌, ◌≡◌, Bool, not, cond, get_or, ltb, eqb, ℤ, pos}
use Rattle.std.proofs.Common.{arith, sym, ap, ⊎_elim, true≢false}
use Rattle.std.proofs.Math.Path.{refl, subst}
use Rattle.std.proofs.Math.Bool.{true, false}
use mathlib.Core.List.Memᴰ
use mathlib.Core.List.{List, [], ◌∷◌, ◌++◌, map, Memᴰ}
use Rattle.std.proofs.Math.ListN.{length}
use Rattle.std.proofs.lemmas.List.{length-map}
use borrow.Author.Tests.{leb-true, le-leb, eq-eqb}
use Rattle.model.specs.Words.{Words, equal, word_sized, policy_limit}
use Rattle.model.specs.Lists.{span, all}
use Rattle.model.specs.Answer.{passed}
use Rattle.model.specs.Log.{arguments}
use Rattle.model.specs.Tree.{Term, constant, variable, Tree, Trees, plain, atom, compare, join, quantifier, some, nil, cons, count, encode}
use Rattle.model.specs.Listing.{Slot, bound, free, Environment, outer, bind, release, number_in, look, meet, fit, matches, list, list_all}
use Rattle.model.specs.Listing.{list_any}
use Rattle.model.specs.Putting.{put_term, put, put_all}
use Rattle.model.specs.Joining.{joined}
use Rattle.model.specs.Reduction.{closed, tuple, instances, reduce, reduce_all}
use Rattle.model.specs.Tptp.{greatest_number, good_term, good_tuple, good_tree, good_trees}
use Rattle.model.specs.Calls.{ask_policy}
use Rattle.laws.specs.Words.Tests.{and_left, and_right, and-true}
use Rattle.laws.specs.Lists.Membership.{all_mem, all_intro, all_append, all_drop, keep_mem, gather_mem, map_mem}
use Rattle.laws.specs.Listing.Exact.{matches_mem}
use Rattle.laws.specs.Putting.Parts.{put_count}
use Rattle.laws.specs.Joining.{All, joined_has, result-all}
use Rattle.laws.specs.Calls.Policy.{accepted-rules}
use Rattle.laws.specs.Reduction.Instances.{fresh_mem, instances-length}
use Rattle.laws.specs.Reduction.Accepted.{settle_has}
use Rattle.laws.specs.Tptp.Spelling.Good.{atom-good, quantifier-good, good-atom, good-compare, good-join, good-quantifier, good-some}
use Rattle.laws.specs.Tptp.Spelling.Good.{good-trees}
use Rattle.laws.specs.Tptp.Spelling.Sized.{formed-good, good-sized}

-- an environment binds numbers of 32 bits only
abbrev Sized : Environment → Type 0
Sized e = (x : ℕ) → word_sized (number_in (e x)) ≡ true

abbrev AllSized : List Environment → Type 0
AllSized es = (e : Environment) → Memᴰ e es → Sized e

-- one of two slots
cond-sized :
    (b : Bool) (s t : Slot) →
    word_sized (number_in s) ≡ true →
    word_sized (number_in t) ≡ true →
    word_sized (number_in (cond b s t)) ≡ true
cond-sized true s t h k = h
cond-sized false s t h k = k

bind-sized : (e : Environment) (x : ℕ) (k : ℤ) → Sized e → word_sized k ≡ true → Sized (bind e x k)
unfolding bind number_in
bind-sized e x k h sized y = cond-sized (eqb y x) (bound k) (e y) sized (h y)

release-sized : (e : Environment) (x : ℕ) → Sized e → Sized (release e x)
unfolding release number_in word_sized
release-sized e x h y = cond-sized (eqb y x) free (e y) refl (h y)

-- a number of a list of them, or 0 past its end
number-sized : (ρ : List ℤ) (x : ℕ) → all word_sized ρ ≡ true → word_sized (get_or ρ x (pos 0)) ≡ true
unfolding all word_sized
number-sized [] x e = refl
number-sized (k ∷ ρ) zero e = and_left (word_sized k) _ e
number-sized (k ∷ ρ) (suc x) e = number-sized ρ x (and_right (word_sized k) _ e)

outer-sized : (ρ : List ℤ) → all word_sized ρ ≡ true → Sized (outer ρ)
unfolding outer number_in word_sized
outer-sized ρ e x = cond-sized (ltb x (length ρ)) (bound (get_or ρ x (pos 0))) free (number-sized ρ x e) refl

-- what a term makes of an argument, and terms of arguments
meet-sized :
    (s : Slot) (t : Term) (a : ℤ) (e : Environment) {d : Environment} →
    word_sized a ≡ true →
    Sized e →
    Memᴰ d (meet s t a e) →
    Sized d
unfolding meet
meet-sized (bound k) t a e {d} sized h m = go (equal k a) m
  where
    go : (b : Bool) → Memᴰ d (cond b (e ∷ []) []) → Sized d
    go true n = subst Sized (sym (Memᴰ.eq_of_singleton n)) h
    go false n = absurd (Memᴰ.not-nil n)
meet-sized free (variable x) a e sized h m = subst Sized (sym (Memᴰ.eq_of_singleton m)) (bind-sized e x a h sized)
meet-sized free (constant k) a e sized h m = absurd (Memᴰ.not-nil m)

fit-sized :
    (ts : List Term) (ks : List ℤ) (e : Environment) {d : Environment} →
    all word_sized ks ≡ true →
    Sized e →
    Memᴰ d (fit ts ks e) →
    Sized d
unfolding fit all
fit-sized [] ks e sized h m = subst Sized (sym (Memᴰ.eq_of_singleton m)) h
fit-sized (t ∷ ts) [] e sized h m = absurd (Memᴰ.not-nil m)
fit-sized (t ∷ ts) (k ∷ ks) e sized h m =
    let (d, m₁, m₂) = gather_mem (fit ts ks) (meet (look e t) t k e) m in
    fit-sized ts ks d (and_right (word_sized k) _ sized)
    (meet-sized (look e t) t k e (and_left (word_sized k) _ sized) h m₁) m₂

arguments-sized : (row : Words) → all word_sized row ≡ true → all word_sized (arguments row) ≡ true
unfolding arguments
arguments-sized row e = all_drop word_sized 2 row e

-- the numbers of a tuple of an environment
tuple-sized : (first v : ℕ) (e : Environment) → Sized e → all word_sized (tuple first v e) ≡ true
unfolding tuple
tuple-sized first v e h =
    all_intro word_sized (tuple first v e) λ k m.
    let (x, i, is) = map_mem (λ y. number_in (e y)) (span first v) m in rw is (h x)

module _ (table : Words) (rows : List Words) (sized : all (all word_sized) rows ≡ true) where
  -- a listing binds words of rows only
  mutual
    unfolding list

    list-sized : (c : Tree) (next : ℕ) (es : List Environment) → AllSized es → AllSized (list table rows c next es)
    list-sized (plain true) next es h e m = h e m
    list-sized (plain false) next es h e m = absurd (Memᴰ.not-nil m)
    list-sized (atom true p ts) next es h e m =
        let (d, m₁, m₂) = gather_mem (matches rows p ts) es m in
        let (row, m₃, says, is, m₄) = matches_mem rows p ts d m₂ in
        fit-sized ts (arguments row) d (arguments-sized row (all_mem (all word_sized) sized m₃)) (h d m₁) m₄
    list-sized (atom false p ts) next es h e m = h e (keep_mem _ es m).0
    list-sized (compare b d x y) next es h e m = h e (keep_mem _ es m).0
    list-sized (join true ts) next es h e m = list-all-sized ts next es h e m
    list-sized (join false ts) next es h e m = list-any-sized ts next es h e m
    list-sized (quantifier b v excluded c f) next es h e m = absurd (Memᴰ.not-nil m)
    list-sized (some c) next es h e m =
        let (d, m₁, is) = map_mem (λ (d : Environment). release d next) (list table rows c (next + 1) es) m in
        subst Sized (sym is) (release-sized d next (list-sized c (next + 1) es h d m₁))

    list-all-sized : (ts : Trees) (next : ℕ) (es : List Environment) → AllSized es → AllSized (list_all table rows ts next es)
    list-all-sized nil next es h e m = h e m
    list-all-sized (cons t ts) next es h e m =
        list-all-sized ts next (list table rows t next es) (λ d n. list-sized t next es h d n) e m

    list-any-sized : (ts : Trees) (next : ℕ) (es : List Environment) → AllSized es → AllSized (list_any table rows ts next es)
    list-any-sized nil next es h e m = absurd (Memᴰ.not-nil m)
    list-any-sized (cons t ts) next es h e m =
        ⊎_elim
        (λ n. list-sized t next es h e n)
        (λ n. list-any-sized ts next es h e n)
        (Memᴰ.append_cases (list table rows t next es) m)

  -- an instance has numbers of 32 bits
  instances-sized :
      (v : ℕ) (excluded : List (List ℤ)) (c : Tree) (ρ τ : List ℤ) →
      all word_sized ρ ≡ true →
      Memᴰ τ (instances table rows v excluded c ρ) →
      all word_sized τ ≡ true
  unfolding instances
  instances-sized v excluded c ρ τ e m =
      let es = list table rows c (length ρ + v) (outer ρ ∷ []) in
      let (n, k) = fresh_mem excluded _ m in
      let (d, i, is) = map_mem (tuple (length ρ) v) es k in
      rw is (tuple-sized (length ρ) v d (list-sized c (length ρ + v) (outer ρ ∷ []) alone d i))
    where
      alone : AllSized (outer ρ ∷ [])
      alone d i = subst Sized (sym (Memᴰ.eq_of_singleton i)) (outer-sized ρ e)

-- good terms and trees stay good when numbers of 32 bits are put in
module _ (ρ : List ℤ) (sized : all word_sized ρ ≡ true) where
  term-good : (t : Term) → good_term t ≡ true → good_term (put_term ρ t) ≡ true
  unfolding good_term put_term
  term-good (constant k) e = e
  term-good (variable x) e = go (ltb x (length ρ))
    where
      go : (b : Bool) → good_term (cond b (constant (get_or ρ x (pos 0))) (variable (x - length ρ))) ≡ true
      go true = number-sized ρ x sized
      go false = le-leb (x - length ρ) greatest_number (omega (arith, leb-true x greatest_number e))

  terms-good : (ts : List Term) → all good_term ts ≡ true → all good_term (map (put_term ρ) ts) ≡ true
  unfolding all
  terms-good [] e = refl
  terms-good (t ∷ ts) e =
      and-true (term-good t (and_left (good_term t) _ e)) (terms-good ts (and_right (good_term t) _ e))

  mutual
    unfolding put good_tree

    put-good : (t : Tree) (kind : Bool) → good_tree t kind ≡ true → good_tree (put t ρ) kind ≡ true
    put-good (plain b) kind good = refl
    put-good (atom b p ts) kind good =
        let is = good-atom b p ts kind good in
        let long = length-map ts (put_term ρ) in
        atom-good b p (map (put_term ρ) ts) kind
        (record {
          number = is.number;
          some = omega (arith, is.some);
          few = omega (arith, is.few);
          each = terms-good ts is.each;
        })
    put-good (compare b d x y) kind good =
        let (number, left, right) = good-compare b d x y kind good in
        and-true (and-true number (term-good x left)) (term-good y right)
    put-good (join b ts) kind good =
        let (two, each) = good-join b ts kind good in
        and-true (le-leb 2 (count (put_all ts ρ)) (rw (put_count ts ρ) two)) (put_goods ts kind each)
    put-good (quantifier b v excluded c f) kind good =
        let is = good-quantifier b v excluded c f kind good in
        quantifier-good b v excluded (put c ρ) (put f ρ) kind
        (record {
          kind = is.kind;
          some = is.some;
          few = is.few;
          tuples = is.tuples;
          restriction = put-good c false is.restriction;
          body = put-good f true is.body;
        })
    put-good (some c) kind good =
        let (is, inner) = good-some c kind good in and-true (ap not is) (put-good c false inner)

    put_goods : (ts : Trees) (kind : Bool) → good_trees ts kind ≡ true → good_trees (put_all ts ρ) kind ≡ true
    put_goods nil kind good = refl
    put_goods (cons t ts) kind good =
        let (first, rest) = good-trees t ts kind good in and-true (put-good t kind first) (put_goods ts kind rest)

-- a tree that is good as a formula
abbrev Good : Tree → Type 0
Good t = good_tree t true ≡ true

plain-good : (b : Bool) → Good (plain b)
unfolding good_tree
plain-good b = refl

goods_all : (ts : Trees) → good_trees ts true ≡ true → All Good ts
unfolding good_tree
goods_all nil e = tt
goods_all (cons t ts) e = let (first, rest) = good-trees t ts true e in (first, goods_all ts rest)

all_goods : (ts : Trees) → All Good ts → good_trees ts true ≡ true
unfolding good_tree
all_goods nil h = refl
all_goods (cons t ts) h = and-true h.0 (all_goods ts h.1)

joined-good : (b : Bool) (ts : Trees) → All Good ts → Good (joined b ts)
unfolding good_tree count
joined-good b =
    joined_has Good b plain-good
    (λ ts h. goods_all ts (good-join b ts true h).1)
    (λ t u ts h. and-true (le-leb 2 (count (cons t (cons u ts))) (omega arith)) (all_goods (cons t (cons u ts)) h))

-- excluded tuples, and new ones
tuples-good :
    (v : ℕ) (l m : List (List ℤ)) →
    all (good_tuple v) l ≡ true →
    ((τ : List ℤ) → Memᴰ τ m → (length τ ≡ v) × (all word_sized τ ≡ true)) →
    all (good_tuple v) (l ++ m) ≡ true
unfolding good_tuple
tuples-good v l m e h =
    all_append (good_tuple v) l m e
    (all_intro (good_tuple v) m λ τ i. and-true (eq-eqb (length τ) v (h τ i).0) (h τ i).1)

-- the residual of a good tree over rows of words of 32 bits, with numbers of 32 bits put in, is good
module _ (table : Words) (rows : List Words) (sized : all (all word_sized) rows ≡ true) where
  mutual
    unfolding reduce

    pub reduce-good : (f : Tree) (ρ : List ℤ) → Good f → all word_sized ρ ≡ true → Good (reduce table rows f ρ)
    reduce-good (plain b) ρ good e = good
    reduce-good (atom b p ts) ρ good e =
        settle_has Good plain-good _ b (put (atom b p ts) ρ) (put-good ρ e (atom b p ts) true good)
    reduce-good (compare b d x y) ρ good e = plain-good _
    reduce-good (join b ts) ρ good e = joined-good b _ (reduce_goods ts ρ (good-join b ts true good).1 e)
    reduce-good (quantifier b v excluded c f) ρ good e =
        let is = good-quantifier b v excluded c f true good in
        let found = instances table rows v excluded c ρ in
        joined-good b _
        (result-all Good (λ τ. reduce table rows f (ρ ++ τ)) found (closed c table)
        (quantifier b v (excluded ++ found) (put c ρ) (put f ρ))
        (λ τ i.
        reduce-good f (ρ ++ τ) is.body
        (all_append word_sized ρ τ e (instances-sized table rows sized v excluded c ρ τ e i)))
        (quantifier-good b v (excluded ++ found) (put c ρ) (put f ρ) true
        (record {
          kind = refl;
          some = is.some;
          few = is.few;
          tuples =
              tuples-good v excluded found is.tuples λ τ i.
              (instances-length table rows v excluded c ρ i, instances-sized table rows sized v excluded c ρ τ e i);
          restriction = put-good ρ e c false is.restriction;
          body = put-good ρ e f true is.body;
        })))
    reduce-good (some c) ρ good e = absurd (true≢false (good-some c true good).0)

    reduce_goods :
        (ts : Trees) (ρ : List ℤ) →
        good_trees ts true ≡ true →
        all word_sized ρ ≡ true →
        All Good (reduce_all table rows ts ρ)
    reduce_goods nil ρ good e = tt
    reduce_goods (cons t ts) ρ good e =
        let (first, rest) = good-trees t ts true good in (reduce-good t ρ first e, reduce_goods ts ρ rest e)

  -- the words of a residual that is no longer than a policy can be have 32 bits, if those of the policy and of the rows have
  pub reduce-sized :
      (policy : Words) (tree : Tree) →
      ask_policy table policy ≡ passed tree →
      all word_sized policy ≡ true →
      length (encode (reduce table rows tree [])) ≤ policy_limit →
      all word_sized (encode (reduce table rows tree [])) ≡ true
  unfolding all
  reduce-sized policy tree e words short =
      let (ok, is, rules) = accepted-rules table policy tree e in
      let good = formed-good tree table true 0 rules.formed (rw is words) in
      good-sized (reduce table rows tree []) (reduce-good tree [] good refl) short

-- The readers of operands take the tokens of every good tree. By induction on the tree: behind each parenthesis readers with
-- room for one less take the trees below.
use Rattle.std.specs.Prelude.{ℕ, zero, suc, ◌+◌, ◌≤◌, ◌≡◌, Bool, cond, ℤ}
use Rattle.std.proofs.Common.{arith, ⊎_elim}
use Rattle.std.proofs.Math.Path.{refl}
use Rattle.std.proofs.Math.Bool.{true, false}
use mathlib.Core.List.Memᴰ
use mathlib.Core.List.{List, [], map, append_assoc, Memᴰ}
use Rattle.model.specs.Words.{word_sized}
use Rattle.model.specs.Bytes.{Text, bytes, blank, digit, tilde, dollar, exclamation, interrogation, parenthesis, letter_p}
use Rattle.model.specs.Lists.{all}
use Rattle.model.specs.Decimal.{digits}
use Rattle.model.specs.Tree.{Term, Tree, Trees, count, plain, atom, compare, join, quantifier, some, nil, cons}
use Rattle.model.specs.Tptp.{predicate_token, parenthesized, negation, excludes, restricted, is_join, enclosed, tokens, good_term, good_tuple}
use Rattle.model.specs.Tptp.{good_tree, good_trees}
use Rattle.model.specs.TptpReading.{Readers, whole, read_quantifier, read_some, read_operand, read_restriction, no_readers, readers}
use Rattle.laws.specs.Tptp.Spelling.Good.{GoodAtom, good-atom, good-compare, good-join, good-quantifier, good-some, good-trees}
use Rattle.laws.specs.Tptp.Limits.Opened.{closing, enclosing, restricting, opened, opened_all}
use Rattle.laws.specs.Tptp.Spelling.TokensAhead.{solid, ahead_first}
use Rattle.laws.specs.Tptp.Complete.Readers.{Completes, map_completes, then_completes, free_completes, token_completes, last_completes}
use Rattle.laws.specs.Tptp.Complete.Readers.{look_completes, opening_completes}
use Rattle.laws.proofs.Tptp.Complete.Lists.{Next, stand-next, Each, binder_completes}
use Rattle.laws.proofs.Tptp.Complete.Atoms.{plain_completes, atom_completes, compare_completes, lesseq_completes, negated_atom}
use Rattle.laws.proofs.Tptp.Complete.Atoms.{negated_compare}
use Rattle.laws.specs.Tptp.Sound.Atoms.{shown}
use Rattle.laws.proofs.Tptp.Complete.Joins.{forest, members, needed, whole_completes, enclosed_completes}
use Rattle.laws.proofs.Tptp.Complete.Restrictions.{excluded-from, restriction_completes}

module _ (room : ℕ) (below : Readers) (scope : ℕ) (rest : Text) where
  some_completes :
      (c : Tree) →
      ((r : ℕ) → room ≡ suc r → (mid : Text) → Next closing mid →
      Completes (opened c) r (tokens c (scope + 1)) c mid (whole (below.operand false (scope + 1)))) →
      Completes (suc (opened c)) room (tokens (some c) scope) (some c) rest (read_some room below scope)
  unfolding bytes blank digit solid parenthesized tokens read_some
  some_completes c one =
      token_completes (bytes "?") refl
      (free_completes _ (λ mid s. binder_completes 0 scope 1 mid (omega arith) (omega arith))
      (opening_completes room λ r is.
      then_completes _ (opened c) (omega arith) (λ mid s. one r is mid (stand-next closing [] _ mid rest refl refl s))
      (map_completes (λ _. some c) refl (last_completes (bytes ")") refl))))

  quantifier_completes :
      (b : Bool) (v : ℕ) (excluded : List (List ℤ)) (c f : Tree) →
      1 ≤ v →
      v ≤ 4 →
      ((r : ℕ) → room ≡ suc r → (mid : Text) →
      Completes (restricting v excluded (needed c)) r (restricted (shown (scope + v) c) (map (excludes scope) excluded))
      (excluded-from c excluded) mid (below.restriction v scope)) →
      ((r : ℕ) → room ≡ suc r → (mid : Text) →
      Completes (needed f) r (shown (scope + v) f) f mid (below.operand true (scope + v))) →
      let tree = quantifier b v excluded c f in
      Completes (opened tree) room (tokens tree scope) tree rest (read_quantifier room below b scope)
  unfolding bytes blank solid parenthesized tokens opened read_quantifier
  quantifier_completes b v excluded c f l h one two =
      token_completes (cond b (bytes "!") (bytes "?")) (mark b)
      (free_completes _ (λ mid s. binder_completes 3 scope v mid l h)
      (opening_completes room λ r is.
      rw append_assoc
      (then_completes _ (restricting v excluded (needed c)) refl (λ mid s. one r is mid)
      (token_completes (cond b (bytes "=>") (bytes "&")) (middle b)
      (then_completes _ (needed f) (omega arith) (λ mid s. two r is mid)
      (map_completes (λ _. quantifier b v excluded c f) refl (last_completes (bytes ")") refl)))))))
    where
      mark : (b : Bool) → solid (cond b (bytes "!") (bytes "?")) ≡ true
      mark true = refl
      mark false = refl

      middle : (b : Bool) → solid (cond b (bytes "=>") (bytes "&")) ≡ true
      middle true = refl
      middle false = refl

-- each kind of operand, told by its first byte
module _ (room : ℕ) (below : Readers) (scope : ℕ) (rest : Text) where
  plain-operand :
      (b formula : Bool) →
      Completes 0 room (shown scope (plain b)) (plain b) rest (read_operand room below formula scope)
  unfolding bytes blank is_join enclosed tokens read_operand
  plain-operand true formula = look_completes _ dollar refl (ahead_first dollar _ [] rest refl) (plain_completes room rest true)
  plain-operand false formula = look_completes _ dollar refl (ahead_first dollar _ [] rest refl) (plain_completes room rest false)

  atom-operand :
      (b formula : Bool) (p : ℕ) (ts : List Term) →
      GoodAtom p ts →
      Completes 1 room (shown scope (atom b p ts)) (atom b p ts) rest (read_operand room below formula scope)
  unfolding bytes blank predicate_token negation is_join enclosed tokens read_operand
  atom-operand true formula p ts good =
      look_completes _ letter_p refl (ahead_first letter_p (digits 10 p) _ rest refl) (atom_completes room rest true p ts good)
  atom-operand false formula p ts good =
      look_completes _ tilde refl (ahead_first tilde [] _ rest refl)
      (negated_atom room rest p (atom_completes room rest false p ts good))

  compare-operand :
      (b formula : Bool) (d : ℤ) (x y : Term) →
      (word_sized d ≡ true) × (good_term x ≡ true) × (good_term y ≡ true) →
      Completes 2 room (shown scope (compare b d x y)) (compare b d x y) rest (read_operand room below formula scope)
  unfolding bytes blank negation is_join enclosed tokens read_operand
  compare-operand true formula d x y (sized, good_x, good_y) =
      look_completes _ dollar refl (ahead_first dollar (bytes "lesseq") _ rest refl)
      (lesseq_completes room rest (compare_completes room rest true d x y sized good_x good_y))
  compare-operand false formula d x y (sized, good_x, good_y) =
      look_completes _ tilde refl (ahead_first tilde [] _ rest refl)
      (negated_compare room rest (compare_completes room rest false d x y sized good_x good_y))

  join-operand :
      (b formula : Bool) (ts : Trees) →
      2 ≤ count ts →
      ((r : ℕ) → room ≡ suc r → Each r (shown scope) needed (below.operand formula scope) (forest ts)) →
      Completes (suc (opened_all ts)) room (shown scope (join b ts)) (join b ts) rest (read_operand room below formula scope)
  unfolding bytes blank parenthesized is_join enclosed read_operand
  join-operand b formula ts two each =
      look_completes _ parenthesis refl (ahead_first parenthesis [] _ rest refl)
      (enclosed_completes room below b formula scope ts rest two each)

  -- a quantifier in a formula, a some in a restriction
  quantifier-operand :
      (b : Bool) (v : ℕ) (excluded : List (List ℤ)) (c f : Tree) →
      let tree = quantifier b v excluded c f in
      Completes (opened tree) room (tokens tree scope) tree rest (read_quantifier room below b scope) →
      Completes (opened tree) room (shown scope tree) tree rest (read_operand room below true scope)
  unfolding bytes blank is_join enclosed tokens read_operand
  quantifier-operand true v excluded c f k = look_completes _ exclamation refl (ahead_first exclamation [] _ rest refl) k
  quantifier-operand false v excluded c f k = look_completes _ interrogation refl (ahead_first interrogation [] _ rest refl) k

  some-operand :
      (c : Tree) →
      Completes (suc (opened c)) room (tokens (some c) scope) (some c) rest (read_some room below scope) →
      Completes (suc (opened c)) room (shown scope (some c)) (some c) rest (read_operand room below false scope)
  unfolding bytes blank is_join enclosed tokens read_operand
  some-operand c k = look_completes _ interrogation refl (ahead_first interrogation [] _ rest refl) k

-- what can be read behind a parenthesis
unfoldable beneath : ℕ → Readers
beneath zero = no_readers
beneath (suc room) = readers room

readers-operand : (room : ℕ) → (readers room).operand ≡ read_operand room (beneath room)
unfolding beneath readers
readers-operand zero = refl
readers-operand (suc room) = refl

readers-restriction : (room : ℕ) → (readers room).restriction ≡ read_restriction room (beneath room)
unfolding beneath readers
readers-restriction zero = refl
readers-restriction (suc room) = refl

-- a tree is taken as an operand, whatever the room, the scope and the rest
abbrev pub Taken : (t : Tree) (formula : Bool) → Type 0
Taken t formula =
    (room scope : ℕ) (rest : Text) →
    Completes (needed t) room (shown scope t) t rest ((readers room).operand formula scope)

-- and so are its own operands
pub record AllTaken (t : Tree) (formula : Bool) : Type 0 where
  pub self : Taken t formula
  pub each : (u : Tree) → Memᴰ u (members t) → Taken u formula

-- behind a parenthesis
module _ (formula : Bool) (room r scope : ℕ) (is : room ≡ suc r) where
  taken_below :
      {t : Tree} →
      Taken t formula →
      (mid : Text) →
      Completes (needed t) r (shown scope t) t mid ((beneath room).operand formula scope)
  unfolding beneath
  taken_below k mid = rw is (k r scope mid)

  each_below :
      (l : List Tree) →
      ((u : Tree) → Memᴰ u l → Taken u formula) →
      Each r (shown scope) needed ((beneath room).operand formula scope) l
  unfolding beneath
  each_below l k u m mid _ = rw is (k u m r scope mid)

-- one with no operands of its own
alone_taken :
    (t : Tree) (formula : Bool) →
    members t ≡ [] →
    ((room scope : ℕ) (rest : Text) →
    Completes (needed t) room (shown scope t) t rest (read_operand room (beneath room) formula scope)) →
    AllTaken t formula
alone_taken t formula e k = record {
  self = λ room scope rest. rw readers-operand (k room scope rest);
  each = λ u m. absurd (Memᴰ.not-nil (rw e at m));
}

-- an all-of or any-of of such operands
row_taken :
    (b : Bool) (ts : Trees) (formula : Bool) →
    2 ≤ count ts →
    ((u : Tree) → Memᴰ u (forest ts) → Taken u formula) →
    AllTaken (join b ts) formula
unfolding is_join enclosing opened members
row_taken b ts formula two each = record {
  self = λ room scope rest.
      rw readers-operand
      (join-operand room (beneath room) scope rest b formula ts two (λ r e. each_below formula room r scope e (forest ts) each));
  each = each;
}

-- the restriction of a quantifier of v variables, behind a parenthesis
restriction-below :
    (c : Tree) (v : ℕ) (excluded : List (List ℤ)) →
    AllTaken c false →
    good_tree c false ≡ true →
    1 ≤ v →
    all (good_tuple v) excluded ≡ true →
    (room r scope : ℕ) →
    room ≡ suc r →
    (mid : Text) →
    Completes (restricting v excluded (needed c)) r (restricted (shown (scope + v) c) (map (excludes scope) excluded))
    (excluded-from c excluded) mid ((beneath room).restriction v scope)
unfolding beneath
restriction-below c v excluded k good l tuples room r scope is mid =
    rw (is, readers-restriction r)
    (restriction_completes r (beneath r) v scope mid c excluded l good tuples
    (rw (← readers-operand r) (k.self r (scope + v) mid))
    (λ s e mid. taken_below false r s (scope + v) e k.self mid)
    (λ s e. each_below false r s (scope + v) e (members c) k.each))

mutual
  unfolding is_join enclosing opened members forest

  -- every good tree is taken, and its own operands are
  pub tree_taken : (t : Tree) (formula : Bool) → good_tree t formula ≡ true → AllTaken t formula
  tree_taken (plain b) formula good =
      alone_taken (plain b) formula refl (λ room scope rest. plain-operand room (beneath room) scope rest b formula)
  tree_taken (atom b p ts) formula good =
      alone_taken (atom b p ts) formula refl
      (λ room scope rest. atom-operand room (beneath room) scope rest b formula p ts (good-atom b p ts formula good))
  tree_taken (compare b d x y) formula good =
      alone_taken (compare b d x y) formula refl
      (λ room scope rest. compare-operand room (beneath room) scope rest b formula d x y (good-compare b d x y formula good))
  tree_taken (join b ts) formula good =
      let (two, goods) = good-join b ts formula good in
      row_taken b ts formula two (λ u m. trees_taken ts formula goods u m)
  tree_taken (quantifier b v excluded c f) formula good =
      let is = good-quantifier b v excluded c f formula good in
      let restrict = tree_taken c false is.restriction in
      let body = tree_taken f true is.body in
      rw is.kind
      (alone_taken (quantifier b v excluded c f) true refl λ room scope rest.
      quantifier-operand room (beneath room) scope rest b v excluded c f
      (quantifier_completes room (beneath room) scope rest b v excluded c f is.some is.few
      (λ r e mid. restriction-below c v excluded restrict is.restriction is.some is.tuples room r scope e mid)
      (λ r e mid. taken_below true room r (scope + v) e body.self mid)))
  tree_taken (some c) formula good =
      let (kind, inner) = good-some c formula good in
      let one = tree_taken c false inner in
      rw kind
      (alone_taken (some c) false refl λ room scope rest.
      some-operand room (beneath room) scope rest c
      (some_completes room (beneath room) scope rest c λ r e mid next.
      whole_completes (scope + 1) ((beneath room).operand false (scope + 1)) c false mid inner
      (λ mid. taken_below false room r (scope + 1) e one.self mid)
      (each_below false room r (scope + 1) e (members c) one.each) next))

  trees_taken :
      (ts : Trees) (formula : Bool) →
      good_trees ts formula ≡ true →
      (u : Tree) →
      Memᴰ u (forest ts) →
      Taken u formula
  trees_taken nil formula good u m = absurd (Memᴰ.not-nil m)
  trees_taken (cons t ts) formula good u m =
      let (first, others) = good-trees t ts formula good in
      ⊎_elim
      (λ e. rw e (tree_taken t formula first).self)
      (λ k. trees_taken ts formula others u k)
      (Memᴰ.cases_cons m)

-- The reader of restrictions takes their tokens: an operand, or in parentheses a restriction and its excluded tuples, or an
-- all-of or any-of. What stands behind the first operand in parentheses tells these two apart.
use Prim.Native.Nat.{ℕ, suc, ◌+◌, ◌-◌, ◌≤◌, max}
use native.Mathlib.Omega.{arith}
use Rattle.std.specs.Prelude.{◌≡◌, Bool, cond, ◌&&◌, length, drop, eqb}
use Rattle.std.proofs.Math.Path.{refl}
use Rattle.std.proofs.Common.{ap, ◌∙◌, subst, ⊎_elim, true≢false}
use Rattle.std.proofs.Math.Bool.{true, false}
use Rattle.std.proofs.lemmas.Bool.{false≢true}
use mathlib.Core.List.Memᴰ
use mathlib.Core.List.{List, [], ◌∷◌, ◌++◌, map, append_assoc}
use Rattle.std.proofs.Math.IntN.{ℤ}
use Rattle.model.specs.Bytes.{Text, bytes, blank, digit, ampersand, parenthesis, letter_x}
use Rattle.model.specs.Lists.{all, gather}
use Rattle.model.specs.Tree.{Tree, Trees, plain, atom, compare, join, quantifier, some, cons, count}
use Rattle.model.specs.Tptp.{Tokens, Stand, predicate_token, variable_token, negation, connective, parenthesized, separated, unequals}
use Rattle.model.specs.Tptp.{excludes, restricted, is_join, enclosed, tokens, good_tuple, good_tree, good_trees}
use Rattle.model.specs.TptpReading.{Readers, stop, Restricted, behind_blanks, begins_with, begins_tuple, begins_excluding, excluding, read_tuple}
use Rattle.model.specs.TptpReading.{read_operand, read_restriction}
use Rattle.laws.specs.Words.Tests.{decide, and_left}
use Rattle.laws.specs.Lists.Membership.{all_mem}
use Rattle.laws.specs.Tptp.Spelling.Good.{good-join, good-trees, good-tuple}
use Rattle.laws.specs.Tptp.Limits.Opened.{closing, enclosing, tupled, restricting, opened, opened_all}
use Rattle.laws.specs.Tptp.Spelling.TokensAhead.{solid, Ahead, stand_ahead, ahead_token, ahead_first}
use Rattle.laws.specs.Tptp.Complete.Readers.{Completes, map_completes, then_completes, last_completes, look_completes, opening_completes}
use Rattle.laws.proofs.Tptp.Complete.Lists.{Next, stand-next, highest-same, row, Each, more_completes, tuple_completes}
use Rattle.laws.specs.Tptp.Sound.Atoms.{shown}
use Rattle.laws.specs.Tptp.Sound.Joins.{enclosed-join}
use Rattle.laws.proofs.Tptp.Complete.Joins.{forest, members, needed, further_tokens, with_two, connective-apart, joining_completes}

-- the first byte of an operand in no parentheses: it is no blank, begins no variable, and is no parenthesis
record First (ts : Tokens) : Type 0 where
  byte : ℕ
  word : Text
  further : Tokens
  is : ts ≡ (byte ∷ word) ∷ further
  solid : blank byte ≡ false
  letter : eqb byte letter_x ≡ false
  plain : eqb byte parenthesis ≡ false

begun :
    (b : ℕ) (w : Text) (ts : Tokens) →
    blank b ≡ false →
    eqb b letter_x ≡ false →
    eqb b parenthesis ≡ false →
    First ((b ∷ w) ∷ ts)
begun b w ts e h l = record { byte = b; word = w; further = ts; is = refl; solid = e; letter = h; plain = l }

operand-first : (t : Tree) (scope : ℕ) → is_join t ≡ false → First (shown scope t)
unfolding bytes blank predicate_token negation is_join enclosed tokens
operand-first (plain true) scope e = begun _ _ _ refl refl refl
operand-first (plain false) scope e = begun _ _ _ refl refl refl
operand-first (atom true p ts) scope e = begun _ _ _ refl refl refl
operand-first (atom false p ts) scope e = begun _ _ _ refl refl refl
operand-first (compare true d x y) scope e = begun _ _ _ refl refl refl
operand-first (compare false d x y) scope e = begun _ _ _ refl refl refl
operand-first (join b ts) scope e = absurd (true≢false e)
operand-first (quantifier true v excluded c f) scope e = begun _ _ _ refl refl refl
operand-first (quantifier false v excluded c f) scope e = begun _ _ _ refl refl refl
operand-first (some c) scope e = begun _ _ _ refl refl refl

-- a byte is next behind blanks if a token begins with it
begins_with_lem :
    (c d : ℕ) (w : Text) (ts : Tokens) (text rest : Text) →
    blank d ≡ false →
    Stand ((d ∷ w) ∷ ts) text rest →
    begins_with c (behind_blanks text) ≡ eqb d c
unfolding begins_with
begins_with_lem c d w ts text rest e s =
    let (t, is) = ahead_first d w ts rest e text (stand_ahead s) in
    ap (begins_with c) is

first-begins :
    {ts₁ : Tokens} (f : First ts₁) (c : ℕ) (ts₂ : Tokens) (text rest : Text) →
    Stand (ts₁ ++ ts₂) text rest →
    begins_with c (behind_blanks text) ≡ eqb f.byte c
first-begins f c ts₂ text rest s =
    begins_with_lem c f.byte f.word (f.further ++ ts₂) text rest f.solid
    (subst (λ (ts : Tokens). Stand (ts ++ ts₂) text rest) f.is s)

-- an operand begins with no variable
operand-letter :
    (t : Tree) (scope : ℕ) (ts : Tokens) (text rest : Text) →
    Stand (shown scope t ++ ts) text rest →
    begins_with letter_x (behind_blanks text) ≡ false
unfolding bytes blank parenthesized
operand-letter t scope ts text rest s =
    ⊎_elim
    (λ e.
    begins_with_lem letter_x parenthesis [] _ text rest refl
    (subst (λ (w : Tokens). Stand (w ++ ts) text rest) (enclosed-join t (tokens t scope) e) s))
    (λ e. let f = operand-first t scope e in first-begins f letter_x ts text rest s ∙ f.letter)
    (decide (is_join t))

-- the first operand of an all-of or any-of
row_first :
    (t : Tree) (formula : Bool) (scope : ℕ) →
    is_join t ≡ true →
    good_tree t formula ≡ true →
    (u : Tree) × (ts : Tokens) × (tokens t scope ≡ shown scope u ++ ts)
unfolding is_join tokens separated
row_first (plain b) formula scope e good = absurd (false≢true e)
row_first (atom b p ts) formula scope e good = absurd (false≢true e)
row_first (compare b d x y) formula scope e good = absurd (false≢true e)
row_first (join b ts) formula scope e good =
    with_two (λ ts. (u : Tree) × (us : Tokens) × (tokens (join b ts) scope ≡ shown scope u ++ us))
    (λ first t us. (first, _, refl)) ts (good-join b ts formula good).0
row_first (quantifier b v excluded c f) formula scope e good = absurd (false≢true e)
row_first (some c) formula scope e good = absurd (false≢true e)

row-stands :
    (t : Tree) (formula : Bool) (scope : ℕ) (ts : Tokens) (text rest : Text) →
    is_join t ≡ true →
    good_tree t formula ≡ true →
    Stand (shown scope t ++ ts) text rest →
    (u : Tree) × (us : Tokens) × Stand (bytes "(" ∷ shown scope u ++ us) text rest
unfolding parenthesized
row-stands t formula scope ts text rest e good s =
    let (u, us, row) = row_first t formula scope e good in
    let more = us ++ ((bytes ")" ∷ []) ++ ts) in
    let whole : shown scope t ++ ts ≡ bytes "(" ∷ shown scope u ++ more =
    rw (enclosed-join t (tokens t scope) e, row) (simp append_assoc) in
    (u, more, subst (λ (w : Tokens). Stand w text rest) whole s)

-- and with no excluded tuple
operand-tuple :
    (t : Tree) (formula : Bool) (scope v : ℕ) (ts : Tokens) (text rest : Text) →
    good_tree t formula ≡ true →
    Stand (shown scope t ++ ts) text rest →
    begins_tuple v text ≡ false
unfolding bytes blank solid begins_with begins_tuple
operand-tuple t formula scope v ts text rest good s =
    ⊎_elim
    (λ e.
    let (u, us, row) = row-stands t formula scope ts text rest e good s in
    let (behind, is, stand) = ahead_token (bytes "(") (shown scope u ++ us) text rest refl (stand_ahead row) in
    let inside = operand-letter u scope us behind rest stand in
    rw (is, inside) (cond_same (eqb v 1)))
    (λ e.
    let f = operand-first t scope e in
    rw (first-begins f letter_x ts text rest s ∙ f.letter, first-begins f parenthesis ts text rest s ∙ f.plain)
    (cond_same (eqb v 1)))
    (decide (is_join t))
  where
    cond_same : (b : Bool) → cond b false false ≡ false
    cond_same true = refl
    cond_same false = refl

-- behind a connective and an operand no excluded tuples are next
operand-excluding :
    (b : Bool) (t : Tree) (formula : Bool) (scope v : ℕ) (ts : Tokens) (text rest : Text) →
    good_tree t formula ≡ true →
    Ahead (connective b ∷ shown scope t ++ ts) text rest →
    begins_excluding v text ≡ false
unfolding bytes blank solid connective begins_with begins_excluding
operand-excluding true t formula scope v ts text rest good s =
    let (behind, is, stand) = ahead_token (bytes "&") (shown scope t ++ ts) text rest refl s in
    rw is (operand-tuple t formula scope v ts behind rest good stand)
operand-excluding false t formula scope v ts text rest good s =
    let (behind, is, stand) = ahead_token (bytes "|") (shown scope t ++ ts) text rest refl s in
    rw is

-- an excluded tuple begins as such
tuple-begins :
    (v x : ℕ) (tuple : List ℤ) (ts : Tokens) (text rest : Text) →
    1 ≤ v →
    length tuple ≡ v →
    Stand (excludes x tuple ++ ts) text rest →
    begins_tuple v text ≡ true
unfolding bytes blank solid variable_token parenthesized separated unequals excludes begins_with begins_tuple
tuple-begins v x [] ts text rest l e s = absurd (omega arith)
tuple-begins v x (k ∷ ks) ts text rest l e s =
    go (eqb v 1) (subst (λ (n : ℕ). Stand (cond (eqb n 1) parts (parenthesized parts) ++ ts) text rest) e s)
  where
    parts : Tokens
    parts = separated (bytes "|") (unequals x (k ∷ ks))

    go :
        (b : Bool) →
        Stand (cond b parts (parenthesized parts) ++ ts) text rest →
        cond b (begins_with letter_x (behind_blanks text))
        (begins_with parenthesis (behind_blanks text) && begins_with letter_x (behind_blanks (drop 1 (behind_blanks text))))
        ≡ true
    go true s = begins_with_lem letter_x letter_x _ _ text rest refl s
    go false s =
        let (behind, is, stand) = ahead_token (bytes "(") _ text rest refl (stand_ahead s) in
        rw is (begins_with_lem letter_x letter_x _ _ behind rest refl stand)

-- behind a connective and a tuple they are next
tuple-excluding :
    (v x : ℕ) (tuple : List ℤ) (ts : Tokens) (text rest : Text) →
    1 ≤ v →
    length tuple ≡ v →
    Ahead (bytes "&" ∷ excludes x tuple ++ ts) text rest →
    begins_excluding v text ≡ true
unfolding bytes blank solid begins_with begins_excluding
tuple-excluding v x tuple ts text rest l e s =
    let (behind, is, stand) = ahead_token (bytes "&") (excludes x tuple ++ ts) text rest refl s in
    rw is (tuple-begins v x tuple ts behind rest l e stand)

-- a restriction and its excluded tuples
abbrev pub excluded-from : (c : Tree) (τs : List (List ℤ)) → Restricted
excluded-from c τs = record { restriction = c; excluded = τs }

-- what is read behind the first operand in parentheses, before the closing one
module _
    (room r : ℕ) (is : room ≡ suc r) (below : Readers) (v x : ℕ) (first : Tree) (rest : Text) (next : Next closing rest) where
  -- the further operands of an all-of or any-of
  excluding-row :
      (b : Bool) (t : Tree) (ts : Trees) →
      good_tree t false ≡ true →
      Each r (shown (x + v)) needed (below.operand false (x + v)) (forest (cons t ts)) →
      Completes (opened_all (cons t ts)) r (further_tokens b (cons t ts) (x + v))
      (excluded-from (join b (cons first (cons t ts))) []) rest
      (excluding room below first (below.operand false (x + v)) v x)
  unfolding gather tokens excluding
  excluding-row b t ts good each =
      let c = joining_completes (x + v) (below.operand false (x + v)) b first t ts stop rest each next in
      record {
        takes = λ text s p.
            rw (operand-excluding b t false (x + v) v _ text rest good s)
            ((map_completes (λ c. excluded-from c []) refl c).takes text s p);
      }

  -- excluded tuples
  excluding-tuples :
      (tuple : List ℤ) (tuples : List (List ℤ)) →
      1 ≤ v →
      all (good_tuple v) (tuple ∷ tuples) ≡ true →
      Completes (tupled v) r (row (excludes x) ampersand (tuple ∷ tuples))
      (excluded-from first (tuple ∷ tuples)) rest
      (excluding room below first (below.operand false (x + v)) v x)
  unfolding bytes blank digit all gather excluding
  excluding-tuples tuple tuples l good =
      let lower : room - 1 ≡ r = omega arith in
      let each : Each r (excludes x) (λ _. tupled v) (read_tuple r v x) (tuple ∷ tuples) =
      λ u m mid h. tuple_completes r v x u mid l (all_mem (good_tuple v) good m) h in
      let one = read_tuple r v x in
      let need : List ℤ → ℕ = λ _. tupled v in
      let c = more_completes r (excludes x) need ampersand refl refl one rest closing next refl (tuple ∷ tuples) each in
      let count = (good-tuple v tuple (and_left (good_tuple v tuple) _ good)).0 in
      record {
        takes = λ text s p.
            rw (tuple-excluding v x tuple _ text rest l count s, lower)
            ((map_completes (excluded-from first) refl (rw (highest-same (tupled v) tuple tuples) at c)
            ).takes text s p);
      }

module _ (room : ℕ) (below : Readers) (v x : ℕ) (rest : Text) where
  -- a restriction in no parentheses
  bare-restriction :
      (c : Tree) →
      is_join c ≡ false →
      Completes (needed c) room (shown (x + v) c) c rest (read_operand room below false (x + v)) →
      Completes (needed c) room (shown (x + v) c) (excluded-from c []) rest (read_restriction room below v x)
  unfolding read_restriction
  bare-restriction c e taken =
      let f = operand-first c (x + v) e in
      look_completes _ f.byte f.solid
      (λ text s.
      ahead_first f.byte f.word f.further rest f.solid text (subst (λ (ts : Tokens). Ahead ts text rest) f.is s))
      (rw f.plain (map_completes (λ c. excluded-from c []) refl taken))

  -- in parentheses: a first operand, and what is behind it
  enclosed-restriction :
      (first : Tree) (further : Tokens) (made : Restricted) (m : ℕ) →
      ((r : ℕ) → room ≡ suc r → (mid : Text) →
      Stand (further ++ bytes ")" ∷ []) mid rest →
      Completes (needed first) r (shown (x + v) first) first mid (below.operand false (x + v))) →
      ((r : ℕ) → room ≡ suc r → (mid : Text) → Next closing mid →
      Completes m r further made mid (excluding room below first (below.operand false (x + v)) v x)) →
      Completes (suc (max (needed first) m)) room (parenthesized (shown (x + v) first ++ further)) made rest
      (read_restriction room below v x)
  unfolding bytes blank digit solid parenthesized read_restriction
  enclosed-restriction first further made m one behind =
      look_completes _ parenthesis refl (ahead_first parenthesis [] _ rest refl)
      (opening_completes room λ r is.
      rw (append_assoc (shown (x + v) first) further (bytes ")" ∷ []))
      (then_completes _ (needed first) refl (one r is)
      (then_completes _ m (omega arith) (λ mid s. behind r is mid (stand-next closing [] _ mid rest refl refl s))
      (map_completes (λ _. made) refl (last_completes (bytes ")") refl)))))

  -- an all-of or any-of
  row-restriction :
      (b : Bool) (ts : Trees) →
      good_tree (join b ts) false ≡ true →
      ((r : ℕ) → room ≡ suc r → Each r (shown (x + v)) needed (below.operand false (x + v)) (forest ts)) →
      Completes (suc (opened_all ts)) room (parenthesized (tokens (join b ts) (x + v))) (excluded-from (join b ts) []) rest
      (read_restriction room below v x)
  unfolding gather forest opened_all tokens separated
  row-restriction b ts good all =
      let (two, each) = good-join b ts false good in
      with_two
      (λ ts.
      good_trees ts false ≡ true →
      ((r : ℕ) → room ≡ suc r → Each r (shown (x + v)) needed (below.operand false (x + v)) (forest ts)) →
      Completes (suc (opened_all ts)) room (parenthesized (tokens (join b ts) (x + v))) (excluded-from (join b ts) []) rest
      (read_restriction room below v x))
      (λ first t us each all.
      let (good, _) = good-trees t us false (good-trees first (cons t us) false each).1 in
      enclosed-restriction first (further_tokens b (cons t us) (x + v)) (excluded-from (join b (cons first (cons t us))) [])
      (opened_all (cons t us))
      (λ r is mid s. all r is first (Memᴰ.head refl) mid (connective-apart b _ mid rest s))
      (λ r is mid next. excluding-row room r is below v x first mid next b t us good (λ u m. all r is u (Memᴰ.tail m))))
      ts two each all

  -- a restriction and its excluded tuples, where the restriction and its own operands are taken
  pub restriction_completes :
      (c : Tree) (excluded : List (List ℤ)) →
      1 ≤ v →
      good_tree c false ≡ true →
      all (good_tuple v) excluded ≡ true →
      Completes (needed c) room (shown (x + v) c) c rest (read_operand room below false (x + v)) →
      ((r : ℕ) → room ≡ suc r → (mid : Text) →
      Completes (needed c) r (shown (x + v) c) c mid (below.operand false (x + v))) →
      ((r : ℕ) → room ≡ suc r → Each r (shown (x + v)) needed (below.operand false (x + v)) (members c)) →
      Completes (restricting v excluded (needed c)) room (restricted (shown (x + v) c) (map (excludes x) excluded))
      (excluded-from c excluded) rest (read_restriction room below v x)
  unfolding bytes is_join enclosed enclosing opened restricted restricting separated members
  restriction_completes c (tuple ∷ tuples) l good each here one all =
      enclosed-restriction c (row (excludes x) ampersand (tuple ∷ tuples)) (excluded-from c (tuple ∷ tuples)) (tupled v)
      (λ r is mid s. one r is mid)
      (λ r is mid next. excluding-tuples room r is below v x c mid next tuple tuples l each)
  restriction_completes (plain b) [] l good each here one all = bare-restriction (plain b) refl here
  restriction_completes (atom b p ts) [] l good each here one all = bare-restriction (atom b p ts) refl here
  restriction_completes (compare b d y z) [] l good each here one all = bare-restriction (compare b d y z) refl here
  restriction_completes (join b ts) [] l good each here one all = row-restriction b ts good all
  restriction_completes (quantifier b w ws c f) [] l good each here one all = bare-restriction (quantifier b w ws c f) refl here
  restriction_completes (some c) [] l good each here one all = bare-restriction (some c) refl here

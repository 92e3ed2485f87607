-- The readers of operands in a row take the tokens of an all-of or any-of, in parentheses or not, where each of its operands is
-- taken.
use Rattle.std.specs.Prelude.{ℕ, suc, ◌≤◌, max, ◌≡◌, Bool, true, false, cond}
use Rattle.std.proofs.Common.{arith, sym, ◌∙◌}
use Rattle.std.proofs.Math.Path.{refl, ap, subst}
use mathlib.Core.List.Memᴰ
use mathlib.Core.List.{List, [], ◌∷◌, ◌++◌, map, append_assoc, append-nil}
use Rattle.model.specs.Bytes.{Text, bytes, blank, digit, ampersand, bar}
use Rattle.model.specs.Lists.{gather}
use Rattle.model.specs.Tree.{Tree, Trees, plain, atom, compare, join, quantifier, some, nil, cons, count}
use Rattle.model.specs.Tptp.{Tokens, Stand, connective, parenthesized, separated, is_join, tokens, operands, good_tree}
use Rattle.model.specs.TptpReading.{Reader, Readers, give, stop, trees, joining, whole, read_join}
use Rattle.laws.specs.Tptp.Spelling.Good.{good-join}
use Rattle.laws.specs.Tptp.Limits.Opened.{closing, enclosing, opened, opened_all}
use Rattle.laws.specs.Tptp.Spelling.TokensAhead.{free, solid, apart, ahead_first, stand-apart}
use Rattle.laws.specs.Tptp.Complete.Readers.{Completes, give_completes, map_completes, then_completes, last_completes, look_completes}
use Rattle.laws.specs.Tptp.Complete.Readers.{opening_completes}
use Rattle.laws.proofs.Tptp.Complete.Lists.{Next, next-first, stand-next, highest, row, Each, more_completes}
use Rattle.laws.specs.Tptp.Sound.Atoms.{shown}
use Rattle.laws.specs.Tptp.Sound.Joins.{trees-operands, connecting, connecting-token, enclosed-not}

-- the operands of an all-of or any-of, as a list
unfoldable pub forest : Trees → List Tree
forest nil = []
forest (cons t ts) = t ∷ forest ts

-- the operands of a tree, if it is one of these
unfoldable pub members : Tree → List Tree
members (plain b) = []
members (atom b p ts) = []
members (compare b d x y) = []
members (join b ts) = forest ts
members (quantifier b v excluded c f) = []
members (some c) = []

-- an all-of or any-of has two operands at least
pub with_two :
    (P : Trees → Type 0) →
    ((first t : Tree) (us : Trees) → P (cons first (cons t us))) →
    (ts : Trees) →
    2 ≤ count ts →
    P ts
unfolding count
with_two P f nil l = absurd (omega arith)
with_two P f (cons first nil) l = absurd (omega arith)
with_two P f (cons first (cons t us)) l = f first t us

trees-forest : (ts : Trees) → trees (forest ts) ≡ ts
unfolding trees forest
trees-forest nil = refl
trees-forest (cons t ts) = ap (cons t) (trees-forest ts)

operands-forest : (ts : Trees) (scope : ℕ) → operands ts scope ≡ map (shown scope) (forest ts)
operands-forest ts scope = ap (λ (u : Trees). operands u scope) (sym (trees-forest ts)) ∙ trees-operands (forest ts) scope

-- the parentheses of an operand
abbrev pub needed : (t : Tree) → ℕ
needed t = enclosing t (opened t)

highest-forest : (ts : Trees) → highest needed (forest ts) ≡ opened_all ts
unfolding highest forest opened_all
highest-forest nil = refl
highest-forest (cons t ts) = ap (max (needed t)) (highest-forest ts)

-- operands behind the first, each behind its connective
abbrev pub further_tokens : (b : Bool) (ts : Trees) (scope : ℕ) → Tokens
further_tokens b ts scope = gather (λ next. connective b ∷ next) (operands ts scope)

further-row : (b : Bool) (ts : Trees) (scope : ℕ) → further_tokens b ts scope ≡ row (shown scope) (connecting b) (forest ts)
further-row b ts scope =
    ap (gather (λ next. connective b ∷ next)) (operands-forest ts scope)
    ∙ ap (λ (w : Text). gather (λ next. w ∷ next) (map (shown scope) (forest ts))) (sym (connecting-token b))

-- a connective begins with no blank and no digit
pub connective-apart :
    (b : Bool) (ts : Tokens) (text rest : Text) →
    Stand (connective b ∷ ts) text rest →
    apart text ≡ true
unfolding bytes blank digit solid free connective
connective-apart true ts text rest s = stand-apart (bytes "&") ts text rest refl refl s
connective-apart false ts text rest s = stand-apart (bytes "|") ts text rest refl refl s

module _ {room : ℕ} (scope : ℕ) (one : Reader Tree) where
  -- the operands behind the first, before a closing parenthesis
  pub joining_completes :
      (b : Bool) (first t : Tree) (ts : Trees) (alone : Reader Tree) (rest : Text) →
      Each room (shown scope) needed one (forest (cons t ts)) →
      Next closing rest →
      Completes (opened_all (cons t ts)) room (further_tokens b (cons t ts) scope) (join b (cons first (cons t ts))) rest
      (joining alone first one)
  unfolding blank digit gather forest joining
  joining_completes b first t ts alone rest each next =
      let tree = join b (cons first (cons t ts)) in
      subst (λ (w : Tokens). Completes (opened_all (cons t ts)) room w tree rest (joining alone first one))
      (sym (further-row b (cons t ts) scope))
      (rw (← highest-forest (cons t ts)) (go b))
    where
      made : (b : Bool) → join b (cons first (trees (forest (cons t ts)))) ≡ join b (cons first (cons t ts))
      made b = ap (λ (u : Trees). join b (cons first u)) (trees-forest (cons t ts))

      go :
          (b : Bool) →
          Completes (highest needed (forest (cons t ts))) room (row (shown scope) (connecting b) (forest (cons t ts)))
          (join b (cons first (cons t ts))) rest (joining alone first one)
      go true =
          look_completes _ ampersand refl (ahead_first ampersand [] _ rest refl)
          (map_completes (λ l. join true (cons first (trees l))) (made true)
          (more_completes room (shown scope) needed ampersand refl refl one rest closing next refl (forest (cons t ts)) each))
      go false =
          look_completes _ bar refl (ahead_first bar [] _ rest refl)
          (map_completes (λ l. join false (cons first (trees l))) (made false)
          (more_completes room (shown scope) needed bar refl refl one rest closing next refl (forest (cons t ts)) each))

  -- no further operands
  alone_completes :
      (t : Tree) (rest : Text) →
      is_join t ≡ false →
      Next closing rest →
      Completes 0 room [] t rest (joining (cond (is_join t) stop (give t)) t one)
  unfolding blank joining
  alone_completes t rest e next =
      look_completes _ closing refl (next-first next) (rw e give_completes)

  -- an operand that is none of these, with no parentheses around it, before a closing one
  single_completes :
      (t : Tree) (rest : Text) →
      is_join t ≡ false →
      ((mid : Text) → Completes (needed t) room (shown scope t) t mid one) →
      Next closing rest →
      Completes (opened t) room (tokens t scope) t rest (whole one)
  unfolding whole enclosing
  single_completes t rest e c next =
      let bare : shown scope t ++ [] ≡ tokens t scope = append-nil (shown scope t) ∙ enclosed-not t (tokens t scope) e in
      let same : needed t ≡ opened t = rw e in
      subst (λ (w : Tokens). Completes (opened t) room w t rest (whole one)) bare
      (then_completes _ (needed t) (omega arith) (λ mid s. c mid) (alone_completes t rest e next))

  -- an all-of or any-of with none around it
  row_completes :
      (b : Bool) (first t : Tree) (ts : Trees) (rest : Text) →
      Each room (shown scope) needed one (forest (cons first (cons t ts))) →
      Next closing rest →
      let tree = join b (cons first (cons t ts)) in
      Completes (opened tree) room (tokens tree scope) tree rest (whole one)
  unfolding whole gather tokens separated opened forest
  row_completes b first t ts rest each next =
      then_completes _ (needed first) refl
      (λ mid s. each first (Memᴰ.head refl) mid (connective-apart b _ mid rest s))
      (joining_completes b first t ts _ rest (λ u m. each u (Memᴰ.tail m)) next)

  -- a tree with none around it, where it and its own operands are taken
  pub whole_completes :
      (t : Tree) (formula : Bool) (rest : Text) →
      good_tree t formula ≡ true →
      ((mid : Text) → Completes (needed t) room (shown scope t) t mid one) →
      Each room (shown scope) needed one (members t) →
      Next closing rest →
      Completes (opened t) room (tokens t scope) t rest (whole one)
  unfolding is_join members
  whole_completes (plain b) formula rest good c each next = single_completes (plain b) rest refl c next
  whole_completes (atom b p ts) formula rest good c each next = single_completes (atom b p ts) rest refl c next
  whole_completes (compare b d x y) formula rest good c each next = single_completes (compare b d x y) rest refl c next
  whole_completes (quantifier b v excluded d f) formula rest good c each next =
      single_completes (quantifier b v excluded d f) rest refl c next
  whole_completes (some d) formula rest good c each next = single_completes (some d) rest refl c next
  whole_completes (join b ts) formula rest good c each next =
      with_two
      (λ ts.
      Each room (shown scope) needed one (forest ts) →
      Completes (opened (join b ts)) room (tokens (join b ts) scope) (join b ts) rest (whole one))
      (λ first t us each. row_completes b first t us rest each next) ts (good-join b ts formula good).0 each

-- an all-of or any-of in parentheses
pub enclosed_completes :
    (room : ℕ) (below : Readers) (b formula : Bool) (scope : ℕ) (ts : Trees) (rest : Text) →
    2 ≤ count ts →
    ((r : ℕ) → room ≡ suc r → Each r (shown scope) needed (below.operand formula scope) (forest ts)) →
    Completes (suc (opened_all ts)) room (parenthesized (tokens (join b ts) scope)) (join b ts) rest
    (read_join room below formula scope)
unfolding bytes blank digit solid gather parenthesized tokens separated forest opened_all read_join
enclosed_completes room below b formula scope ts rest l each =
    with_two
    (λ ts.
    ((r : ℕ) → room ≡ suc r → Each r (shown scope) needed (below.operand formula scope) (forest ts)) →
    Completes (suc (opened_all ts)) room (parenthesized (tokens (join b ts) scope)) (join b ts) rest
    (read_join room below formula scope))
    (λ first t us each.
    opening_completes room λ r is.
    rw append_assoc
    (then_completes _ (needed first) (omega arith)
    (λ mid s. each r is first (Memᴰ.head refl) mid (connective-apart b _ mid rest s))
    (then_completes _ (opened_all (cons t us)) refl
    (λ mid s.
    joining_completes scope (below.operand formula scope) b first t us stop mid (λ u m. each r is u (Memᴰ.tail m))
    (stand-next closing [] _ mid rest refl refl s))
    (map_completes (λ _. join b (cons first (cons t us))) refl (last_completes (bytes ")") refl)))))
    ts l each

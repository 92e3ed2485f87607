-- What the readers of operands in a row read: an all-of or any-of, in parentheses or not.
use Prim.Native.Nat.{ℕ, suc}
use Rattle.std.proofs.Common.{arith, sym, ap, ◌∙◌, subst, ⊎_elim, eqb-true, le-leb}
use Rattle.std.specs.Prelude.{◌≡◌, refl, Bool, true, false, length, eqb}
use Rattle.std.proofs.Math.Bool.{cond}
use mathlib.Core.List.{List, [], ◌∷◌, ◌++◌, map, append_assoc, append-nil}
use Rattle.model.specs.Bytes.{Text, bytes, blank, ampersand, bar}
use Rattle.model.specs.Lists.{all, gather}
use Rattle.model.specs.Tree.{Tree, join, cons, count}
use Rattle.model.specs.Tptp.{Tokens, connective, parenthesized, separated, is_join, enclosed, tokens, operands, good_tree, good_trees}
use Rattle.model.specs.TptpReading.{Reader, give, stop, ◌>>=◌, more, behind_blanks, begins_with, trees, joining, whole}
use Rattle.laws.specs.Words.Tests.{decide, and_left, and_right, and-true}
use Rattle.laws.specs.Tptp.Spelling.TokensInFront.{Fill, Trail, fill-append, trail-none, trail-append, trail-fill}
use Rattle.laws.specs.Tptp.Sound.Readers.{Spelling, behind, Comes, Reads, comes_as, comes-map, give-reads, stop-reads, cond-reads, then_reads}
use Rattle.laws.specs.Tptp.Sound.Tokens.{comes-look}
use Rattle.laws.specs.Tptp.Sound.Lists.{Several, several_blanks, several_some, more-comes}
use Rattle.laws.specs.Tptp.Sound.Atoms.{shown, Operand}

-- a list of trees, as the operands of a join
pub trees-operands : (ts : List Tree) (scope : ℕ) → operands (trees ts) scope ≡ map (shown scope) ts
unfolding trees operands
trees-operands [] scope = refl
trees-operands (t ∷ ts) scope = ap (λ (l : List Tokens). shown scope t ∷ l) (trees-operands ts scope)

trees-count : (ts : List Tree) → count (trees ts) ≡ length ts
unfolding trees count
trees-count [] = refl
trees-count (t ∷ ts) = ap suc (trees-count ts)

trees-good : (ts : List Tree) (formula : Bool) → all (λ t. good_tree t formula) ts ≡ true → good_trees (trees ts) formula ≡ true
unfolding all trees good_trees
trees-good [] formula e = refl
trees-good (t ∷ ts) formula e =
    and-true (and_left (good_tree t formula) _ e) (trees-good ts formula (and_right (good_tree t formula) _ e))

-- the byte of a connective
abbrev pub connecting : (b : Bool) → ℕ
connecting b = cond b ampersand bar

pub connecting-token : (b : Bool) → connecting b ∷ [] ≡ connective b
unfolding bytes connective
connecting-token true = refl
connecting-token false = refl

-- an all-of or any-of of `first` and of what a text has behind it
pub record Joined (formula : Bool) (scope : ℕ) (first : Tree) (t : Tree) (u : Text) : Type 0 where
  pub joins : is_join t ≡ true
  pub good : good_tree first formula ≡ true → good_tree t formula ≡ true
  pub further : Tokens
  pub all : tokens t scope ≡ enclosed first (tokens first scope) ++ further
  pub trail : Trail further u

joined :
    {formula : Bool} {scope high : ℕ} {ts : List Tree} {u : Text} (first : Tree) (b : Bool) →
    Several (shown scope) (λ t. good_tree t formula) (connecting b) 1 high ts u →
    Joined formula scope first (join b (cons first (trees ts))) u
unfolding is_join good_trees count operands separated
joined {formula} {scope} {ts} {u} first b s =
    let count = le-leb 2 (suc (count (trees ts))) (omega (arith, s.many, trees-count ts)) in
    record {
      joins = refl;
      good = λ e. and-true count (and-true e (trees-good ts formula s.each));
      further = gather (λ next. connective b ∷ next) (map (shown scope) ts);
      all = rw trees-operands;
      trail =
          subst (λ (w : Text). Trail (gather (λ next. w ∷ next) (map (shown scope) ts)) u) (connecting-token b) s.trail;
    }

-- a connective is next
connecting-next : (b : Bool) (t : Text) → begins_with (connecting b) (behind_blanks (connecting b ∷ t)) ≡ true
unfolding blank behind_blanks begins_with
connecting-next true t = refl
connecting-next false t = refl

-- the reading of the further operands of an all-of (true) or any-of
abbrev joined_by : Reader Tree → Tree → Bool → Reader Tree
joined_by one first b = do
  ts ← more (connecting b) one
  give (join b (cons first (trees ts)))

module _
    {told : Type 0} (formula : Bool) (scope : ℕ) (one : Reader Tree) (h : Reads told (Operand formula scope) one)
    (first : Tree) where
  joined-comes :
      (b : Bool) (gap : Text) →
      all blank gap ≡ true →
      (t : Text) (q : ℕ) →
      Comes told (behind gap (Joined formula scope first)) (connecting b ∷ t) q
      (joined_by one first b (connecting b ∷ t) q)
  unfolding ◌>>=◌
  joined-comes b gap e t q =
      comes-map (λ ts. join b (cons first (trees ts)))
      (more-comes (shown scope) (λ t. good_tree t formula) (connecting b) one h (connecting b ∷ t) q (connecting-next b t))
      λ ts u s. joined first b (several_blanks gap e s)

  -- some text has one operand more
  pub joined-some : told → (gap : Text) → all blank gap ≡ true → (t : Tree) × (u : Text) × Joined formula scope first t (gap ++ u)
  joined-some t gap e =
      let (ts, u, s) = several_some (shown scope) (λ t. good_tree t formula) ampersand one h t gap e in
      (join true (cons first (trees ts)), u, joined first true s)

  -- the further operands, or what `alone` reads
  joining-reads :
      (alone : Reader Tree) (N : Spelling Tree) →
      ((gap : Text) → all blank gap ≡ true → Reads told (behind gap N) alone) →
      ((t : Tree) (u : Text) → Joined formula scope first t u → N t u) →
      Reads told N (joining alone first one)
  unfolding all joining
  joining-reads alone N none k = record {
    example = λ t. some t [] refl;
    comes = λ text p. comes-look next N text p some (λ gap b s q e is. come gap b s q e);
  }
    where
      next : ℕ → Reader Tree
      next b = cond (eqb b ampersand) (joined_by one first true) (cond (eqb b bar) (joined_by one first false) alone)

      some : told → (gap : Text) → all blank gap ≡ true → (t : Tree) × (u : Text) × N t (gap ++ u)
      some t gap e = let (x, u, j) = joined-some t gap e in (x, u, k x (gap ++ u) j)

      behind-one :
          (c : Bool) (gap : Text) (b : ℕ) (s : Text) (q : ℕ) →
          all blank gap ≡ true →
          b ≡ connecting c →
          Comes told (behind gap N) (b ∷ s) q (joined_by one first c (b ∷ s) q)
      behind-one c gap b s q e is =
          subst (λ (d : ℕ). Comes told (behind gap N) (d ∷ s) q (joined_by one first c (d ∷ s) q)) (sym is)
          (comes_as (λ t u j. k t (gap ++ u) j) (joined-comes c gap e s q))

      come :
          (gap : Text) (b : ℕ) (s : Text) (q : ℕ) →
          all blank gap ≡ true →
          Comes told (behind gap N) (b ∷ s) q (next b (b ∷ s) q)
      come gap b s q e =
          ⊎_elim
          (λ l. rw l (behind-one true gap b s q e (eqb-true b ampersand l)))
          (λ l. rw l (⊎_elim
          (λ l. rw l (behind-one false gap b s q e (eqb-true b bar l)))
          (λ l. rw l ((none gap e).comes (b ∷ s) q))
          (decide (eqb b bar))))
          (decide (eqb b ampersand))

  -- the further operands alone
  pub further-reads : Reads told (Joined formula scope first) (joining stop first one)
  further-reads =
      joining-reads stop (Joined formula scope first) (λ gap e. stop-reads (λ t. joined-some t gap e)) (λ t u j. j)

-- a tree with no parentheses around it
pub record Alone (formula : Bool) (scope : ℕ) (t : Tree) (u : Text) : Type 0 where
  pub good : good_tree t formula ≡ true
  pub trail : Trail (tokens t scope) u

pub enclosed-not : (t : Tree) (ts : Tokens) → is_join t ≡ false → enclosed t ts ≡ ts
unfolding enclosed
enclosed-not t ts e = rw e

pub enclosed-join : (t : Tree) (ts : Tokens) → is_join t ≡ true → enclosed t ts ≡ parenthesized ts
unfolding enclosed
enclosed-join t ts e = rw e

-- a first operand and further ones, with no parentheses around them
joined-alone :
    {formula : Bool} {scope : ℕ} {first t : Tree} {u v : Text} →
    Operand formula scope first u →
    Joined formula scope first t v →
    Alone formula scope t (u ++ v)
joined-alone (good, f) j = record { good = j.good good; trail = rw j.all (trail-append f j.trail) }

-- in parentheses
pub parenthesized-fill :
    {first further : Tokens} {u₁ u₂ u₃ u₄ : Text} →
    Fill (bytes "(" ∷ []) u₁ →
    Fill first u₂ →
    Trail further u₃ →
    Fill (bytes ")" ∷ []) u₄ →
    Fill (parenthesized (first ++ further)) (u₁ ++ (u₂ ++ (u₃ ++ u₄)))
unfolding parenthesized
parenthesized-fill {first} {further} f₁ f₂ t f₄ =
    rw (append_assoc first further (bytes ")" ∷ [])) (fill-append f₁ (fill-append f₂ (trail-fill t f₄)))

pub joined-shown :
    {formula : Bool} {scope : ℕ} {first t : Tree} {u : Text} (j : Joined formula scope first t u) →
    shown scope t ≡ parenthesized (shown scope first ++ j.further)
joined-shown {scope} {t} j = enclosed-join t (tokens t scope) j.joins ∙ ap parenthesized j.all

-- what is read with no parentheses around it
module _ {told : Type 0} (formula : Bool) (scope : ℕ) (one : Reader Tree) (h : Reads told (Operand formula scope) one) where
  pub whole-reads : Reads told (Alone formula scope) (whole one)
  unfolding whole
  whole-reads =
      then_reads h λ first u o.
      joining-reads formula scope one h first (cond (is_join first) stop (give first)) (behind u (Alone formula scope))
      (λ gap e.
      cond-reads (is_join first)
      (λ _.
      stop-reads λ t.
      let (x, v, j) = joined-some formula scope one h first t gap e in
      (x, v, joined-alone o j))
      (λ k.
      let trail = trail-append o.1 (trail-none gap e) in
      let bare = rw (append-nil, enclosed-not first (tokens first scope) k) at trail in
      give-reads first (record { good = o.0; trail = rw (append-nil gap) bare })))
      (λ t v j. joined-alone o j)

-- The texts of nodes: each is the texts that the code writes, one behind another.
use Prim.Native.Nat.{ℕ, ◌+◌}
use native.Mathlib.Omega.{arith}
use mathlib.Core.Path.{◌≡◌, refl, sym, ap, ◌∙◌}
use mathlib.Core.Bool.{Bool, true, false, cond}
use mathlib.Core.List.{List, [], ◌∷◌, ◌++◌, map, append_assoc, append-nil}
use lib.ListN.{length}
use lib.Dec.{eqb}
use lib.IntN.{ℤ}
use borrow.Author.Tests.{ne_eqb}
use Rattle.model.specs.Words.{Words, word, value}
use Rattle.model.specs.Lists.{gather}
use Rattle.model.specs.Bytes.{Text, bytes}
use Rattle.model.specs.Decimal.{digits, decimal}
use Rattle.model.specs.Reading.{places, term_at}
use Rattle.model.specs.Tree.{Term, Tree, Trees, plain, atom, compare, join, quantifier, some, nil, cons}
use Rattle.model.specs.Tptp.{Tokens, predicate_token, term_token, parenthesized, separated, connective, negation, binder, excludes}
use Rattle.model.specs.Tptp.{restricted}
use Rattle.model.specs.Tptp.{is_join, enclosed, tokens, operands, text_tokens, policy_text}
use Rattle.tptp_putting.specs.Texts.{spelt, term_text, terms_text, head_text, tuple_text, tuples_text, closed_text}
use Rattle.tptp_writing.specs.Printing.{atom_at, compare_at, node_text, operands_text}
use Rattle.tptp_putting.proofs.TextLaws.{spelt-append, preceded, separated_first}

-- a tree that is no all-of or any-of stands as it is
bare-text : (bare : Bool) (tree : Tree) (scope : ℕ) → is_join tree ≡ false → node_text bare tree scope ≡ node_text true tree scope
unfolding node_text enclosed
bare-text true tree scope e = refl
bare-text false tree scope e = rw e

-- one with no node below it stands so in every scope
module _ (bare holds : Bool) (scope : ℕ) where
  pub plain-same : node_text bare (plain holds) scope ≡ node_text true (plain holds) 0
  unfolding node_text tokens is_join
  plain-same = bare-text bare (plain holds) scope refl

  pub atom-same : (p : ℕ) (ts : List Term) → node_text bare (atom holds p ts) scope ≡ node_text true (atom holds p ts) 0
  unfolding node_text tokens is_join
  atom-same p ts = bare-text bare (atom holds p ts) scope refl

  pub compare_same :
      (d : ℤ) (x y : Term) → node_text bare (compare holds d x y) scope ≡ node_text true (compare holds d x y) 0
  unfolding node_text tokens is_join
  compare_same d x y = bare-text bare (compare holds d x y) scope refl

  pub quantifier-same :
      (v : ℕ) (τs : List (List ℤ)) (c f : Tree) →
      node_text bare (quantifier holds v τs c f) scope ≡ node_text true (quantifier holds v τs c f) scope
  unfolding is_join
  quantifier-same v τs c f = bare-text bare (quantifier holds v τs c f) scope refl

pub some_same : (bare : Bool) (scope : ℕ) (c : Tree) → node_text bare (some c) scope ≡ node_text true (some c) scope
unfolding is_join
some_same bare scope c = bare-text bare (some c) scope refl

pub plain-text : (holds : Bool) → node_text true (plain holds) 0 ≡ cond holds (bytes "$true") (bytes "$false")
unfolding node_text tokens spelt gather
plain-text holds = append-nil (cond holds (bytes "$true") (bytes "$false"))

module _ (words : Words) (holds : Bool) (at : ℕ) where
  pub atom_text :
      (p n : ℕ) → p ≡ value words (at + 1) → n ≡ value words (at + 2) →
      node_text true (atom_at words holds at) 0
      ≡ (((cond holds (bytes "p") (bytes "~p") ++ digits 10 p) ++ bytes "(") ++ terms_text words (at + 3) n) ++ bytes ")"
  unfolding node_text atom_at tokens negation predicate_token parenthesized terms_text spelt gather bytes
  atom_text p n e f = rw (← e, ← f) (go holds)
    where
      terms : Tokens
      terms = separated (bytes ",") (map (λ t. term_token t ∷ []) (map (term_at words) (places (at + 3) n)))

      -- the terms, and the parenthesis behind them
      last :
          (lead : Text) → lead ++ (bytes "(" ++ spelt (terms ++ bytes ")" ∷ []))
          ≡ ((lead ++ bytes "(") ++ spelt terms) ++ bytes ")"
      last lead = ap (λ (t : Text). lead ++ (bytes "(" ++ t)) (spelt-append terms (bytes ")" ∷ [])) ∙ simp append_assoc

      go :
          (b : Bool) →
          spelt (negation b ++ predicate_token p ∷ parenthesized terms)
          ≡ (((cond b (bytes "p") (bytes "~p") ++ digits 10 p) ++ bytes "(") ++ spelt terms) ++ bytes ")"
      go true = last (bytes "p" ++ digits 10 p)
      go false = last (bytes "~p" ++ digits 10 p)

  pub compare_text :
      node_text true (compare_at words holds at) 0
      ≡ (((((cond holds (bytes "$lesseq($sum(") (bytes "~$lesseq($sum(") ++ term_text words (at + 2)) ++ bytes ",")
      ++ decimal (word words (at + 1)))
      ++ bytes "),")
      ++ term_text words (at + 4))
      ++ bytes ")"
  unfolding node_text compare_at tokens negation parenthesized term_text spelt gather bytes
  compare_text = go holds
    where
      go :
          (b : Bool) →
          node_text true (compare b (word words (at + 1)) (term_at words (at + 2)) (term_at words (at + 4))) 0
          ≡ (((((cond b (bytes "$lesseq($sum(") (bytes "~$lesseq($sum(") ++ term_text words (at + 2)) ++ bytes ",")
          ++ decimal (word words (at + 1)))
          ++ bytes "),")
          ++ term_text words (at + 4))
          ++ bytes ")"
      go true = simp append_assoc
      go false = simp append_assoc

-- the text of operands behind others
pub rest_text : Bool → Trees → ℕ → Text
rest_text every ts scope = preceded (connective every) (operands ts scope)

module _ (every : Bool) (scope : ℕ) where
  pub operands-first :
      (t : Tree) (ts : Trees) → operands_text every (cons t ts) scope ≡ node_text false t scope ++ rest_text every ts scope
  unfolding operands_text operands node_text rest_text tokens
  operands-first t ts = separated_first (connective every) _ _

  pub operands-more :
      (t : Tree) (ts : Trees) →
      rest_text every (cons t ts) scope ≡ connective every ++ (node_text false t scope ++ rest_text every ts scope)
  unfolding rest_text tokens preceded gather node_text
  operands-more t ts = append_assoc (connective every) _ _

  pub operands-none : rest_text every nil scope ≡ []
  unfolding rest_text tokens preceded gather
  operands-none = refl

  pub join-text :
      (bare : Bool) (ts : Trees) →
      node_text bare (join every ts) scope
      ≡ cond bare (bytes "") (bytes "(") ++ (operands_text every ts scope ++ cond bare (bytes "") (bytes ")"))
  unfolding node_text tokens enclosed is_join parenthesized operands_text spelt gather bytes
  join-text true ts = sym (append-nil (operands_text every ts scope))
  join-text false ts =
      ap (λ (t : Text). bytes "(" ++ t) (spelt-append (separated (connective every) (operands ts scope)) (bytes ")" ∷ []))

-- excluded tuples behind a restriction
tuples-text : (scope : ℕ) (τs : List (List ℤ)) → preceded (bytes "&") (map (excludes scope) τs) ≡ tuples_text scope τs
unfolding preceded gather tuples_text tuple_text
tuples-text scope [] = refl
tuples-text scope (τ ∷ τs) = ap (λ (t : Text). (bytes "&" ++ spelt (excludes scope τ)) ++ t) (tuples-text scope τs)

-- a restriction that is opened, and its excluded tuples
restricted-text :
    (c : Tokens) (scope m : ℕ) (τs : List (List ℤ)) → length τs ≡ m →
    bytes "(" ++ spelt (restricted c (map (excludes scope) τs))
    ≡ cond (eqb m 0) (bytes "(") (bytes "((") ++ (spelt c ++ closed_text scope τs)
unfolding restricted closed_text parenthesized bytes spelt gather
restricted-text c scope m [] e = rw (← e) (ap (λ (t : Text). bytes "(" ++ t) (sym (append-nil (spelt c))))
restricted-text c scope m (τ ∷ τs) e =
    let parts = separated (bytes "&") (c ∷ map (excludes scope) (τ ∷ τs)) in
    let many : eqb m 0 ≡ false = ne_eqb m 0 (λ q. absurd (omega arith)) in
    rw many
    (ap (λ (t : Text). bytes "((" ++ t)
    (spelt-append parts (bytes ")" ∷ [])
    ∙ ap (λ (t : Text). t ++ bytes ")")
    (separated_first (bytes "&") c (map (excludes scope) (τ ∷ τs)) ∙ ap (λ (t : Text). spelt c ++ t) (tuples-text scope (τ ∷ τs)))
    ∙ append_assoc (spelt c) (tuples_text scope (τ ∷ τs)) (bytes ")")))

parenthesized-text : (ts : Tokens) → spelt (parenthesized ts) ≡ bytes "(" ++ (spelt ts ++ bytes ")")
unfolding parenthesized spelt gather
parenthesized-text ts =
    ap (λ (t : Text). bytes "(" ++ t)
    (spelt-append ts (bytes ")" ∷ []) ∙ ap (λ (t : Text). spelt ts ++ t) (append-nil (bytes ")")))

module _ (every : Bool) (v scope m : ℕ) (τs : List (List ℤ)) (c f : Tree) (e : length τs ≡ m) where
  pub quantifier-text :
      node_text true (quantifier every v τs c f) scope
      ≡ head_text every scope v (eqb m 0)
      ++ (node_text false c (scope + v)
      ++ (closed_text scope τs ++ (cond every (bytes "=>") (bytes "&") ++ (node_text false f (scope + v) ++ bytes ")"))))
  unfolding node_text tokens head_text spelt gather
  quantifier-text =
      let sign = cond every (bytes "!") (bytes "?") in
      let bound = binder scope v in
      let inner = enclosed c (tokens c (scope + v)) in
      let restricts = restricted inner (map (excludes scope) τs) in
      let arrow = cond every (bytes "=>") (bytes "&") in
      let body = enclosed f (tokens f (scope + v)) in
      let last = arrow ++ (spelt body ++ bytes ")") in
      let whole : spelt (bound ++ parenthesized (restricts ++ arrow ∷ body))
      ≡ spelt bound ++ ((bytes "(" ++ spelt restricts) ++ last)
      = spelt-append bound (parenthesized (restricts ++ arrow ∷ body))
      ∙ ap (λ (t : Text). spelt bound ++ t)
      (parenthesized-text (restricts ++ arrow ∷ body)
      ∙ ap (λ (t : Text). bytes "(" ++ (t ++ bytes ")")) (spelt-append restricts (arrow ∷ body)))
      ∙ simp append_assoc in
      ap (λ (t : Text). sign ++ t)
      (whole ∙ ap (λ (t : Text). spelt bound ++ (t ++ last)) (restricted-text inner scope m τs e))
      ∙ simp append_assoc

pub some-text :
    (scope : ℕ) (c : Tree) →
    node_text true (some c) scope ≡ head_text false scope 1 true ++ (node_text true c (scope + 1) ++ bytes ")")
unfolding node_text tokens head_text spelt gather
some-text scope c =
    ap (λ (t : Text). bytes "?" ++ t)
    (spelt-append (binder scope 1) (parenthesized (tokens c (scope + 1)))
    ∙ ap (λ (t : Text). spelt (binder scope 1) ++ t) (parenthesized-text (tokens c (scope + 1))))
    ∙ simp append_assoc

pub policy-text : (tree : Tree) → policy_text tree ≡ bytes "tff(a,axiom," ++ (node_text true tree 0 ++ bytes ").")
unfolding policy_text text_tokens parenthesized node_text spelt gather bytes
policy-text tree =
    let node = tokens tree 0 in
    ap (λ (t : Text). bytes "tff(a,axiom," ++ t)
    (spelt-append (node ++ bytes ")" ∷ []) (bytes "." ∷ [])
    ∙ ap (λ (t : Text). t ++ bytes ".") (spelt-append node (bytes ")" ∷ []))
    ∙ append_assoc (spelt node) (bytes ")") (bytes "."))

-- Words of 32 bits and good trees: a formed tree whose words have 32 bits is good; and a good tree of no more words than a policy can
-- have has words of 32 bits, since each count is at most the number of words.
use Rattle.std.specs.Prelude.{ℕ, ◌+◌, ◌≤◌, ◌≡◌, refl, Bool, true, false, not, cond, List, [], ◌∷◌, ◌++◌, length, leb, ℤ, pos, negsuc}
use Rattle.std.proofs.Common.{arith, ap, length-append, leb-true, le-leb, eq-eqb}
use Rattle.std.specs.Int.Signed.{le_z}
use Rattle.model.specs.Words.{Words, word_sized, policy_limit}
use Rattle.model.specs.Lists.{all, gather}
use Rattle.model.specs.Tree.{count, Term, constant, variable, Tree, Trees, plain, atom, compare, join, quantifier, some, nil, cons}
use Rattle.model.specs.Tree.{encode_term, encode, encode_all}
use Rattle.model.specs.Tptp.{greatest_number, good_term, good_tuple, good_tree, good_trees}
use Rattle.laws.specs.Words.Tests.{and_left, and_right, and-true}
use Rattle.laws.specs.Lists.Membership.{all_append, all-parts}
use Rattle.laws.specs.Reading.Formed.{Formed, FormedAll, AllOfLength}
use Rattle.laws.specs.Reading.Back.{count-few}
use Rattle.laws.specs.Tptp.Spelling.Good.{atom-good, quantifier-good, good-atom, good-compare, good-join, good-quantifier, good-some}
use Rattle.laws.specs.Tptp.Spelling.Good.{good-trees, good-tuple}

-- terms, tuples and trees of accepted words of 32 bits are good
sized-number : (n : ℕ) → word_sized (pos n) ≡ true → leb n greatest_number ≡ true
unfolding word_sized
sized-number n e = and_right (le_z (negsuc 2147483647) (pos n)) _ e

sized-term : (t : Term) → all word_sized (encode_term t) ≡ true → good_term t ≡ true
unfolding all encode_term good_term
sized-term (constant k) e = and_left (word_sized k) _ (and_right (word_sized (pos 0)) _ e)
sized-term (variable x) e = sized-number x (and_left (word_sized (pos x)) _ (and_right (word_sized (pos 1)) _ e))

sized-terms : (ts : List Term) → all word_sized (gather encode_term ts) ≡ true → all good_term ts ≡ true
unfolding all gather
sized-terms [] e = refl
sized-terms (t ∷ ts) e =
    let (first, others) = all-parts word_sized (encode_term t) (gather encode_term ts) e in
    and-true (sized-term t first) (sized-terms ts others)

sized-tuples :
    (v : ℕ) (τs : List (List ℤ)) →
    AllOfLength v τs →
    all word_sized (gather (λ tuple. tuple) τs) ≡ true →
    all (good_tuple v) τs ≡ true
unfolding all gather AllOfLength good_tuple
sized-tuples v [] h e = refl
sized-tuples v (τ ∷ τs) (long, h) e =
    let (first, others) = all-parts word_sized τ (gather (λ tuple. tuple) τs) e in
    and-true (and-true (eq-eqb (length τ) v long) first) (sized-tuples v τs h others)

-- the same of each kind of node, from all its words
pub sized-atom :
    (b : Bool) (p : ℕ) (ts : List Term) →
    all word_sized (encode (atom b p ts)) ≡ true →
    (p ≤ greatest_number) × (all good_term ts ≡ true)
unfolding all encode
sized-atom b p ts e =
    let behind = and_right (word_sized (pos (cond b 2 3))) _ e in
    let counted = and_right (word_sized (pos p)) _ behind in (
      leb-true p greatest_number (sized-number p (and_left (word_sized (pos p)) _ behind)),
      sized-terms ts (and_right (word_sized (pos (length ts))) _ counted),
    )

pub sized-compare :
    (b : Bool) (d : ℤ) (x y : Term) (kind : Bool) →
    all word_sized (encode (compare b d x y)) ≡ true →
    good_tree (compare b d x y) kind ≡ true
unfolding all encode good_tree
sized-compare b d x y kind e =
    let behind = and_right (word_sized (pos (cond b 4 5))) _ e in
    let (left, right) = all-parts word_sized (encode_term x) (encode_term y) (and_right (word_sized d) _ behind) in
    and-true (and-true (and_left (word_sized d) _ behind) (sized-term x left)) (sized-term y right)

pub sized-join : (b : Bool) (ts : Trees) → all word_sized (encode (join b ts)) ≡ true → all word_sized (encode_all ts) ≡ true
unfolding all encode
sized-join b ts e = and_right (word_sized (pos (count ts))) _ (and_right (word_sized (pos (cond b 6 7))) _ e)

pub sized-quantifier :
    (b : Bool) (v : ℕ) (excluded : List (List ℤ)) (c f : Tree) →
    AllOfLength v excluded →
    all word_sized (encode (quantifier b v excluded c f)) ≡ true →
    (all (good_tuple v) excluded ≡ true) × (all word_sized (encode c) ≡ true) × (all word_sized (encode f) ≡ true)
unfolding all encode
sized-quantifier b v excluded c f long e =
    let counted = and_right (word_sized (pos v)) _ (and_right (word_sized (pos (cond b 8 9))) _ e) in
    let behind = and_right (word_sized (pos (length excluded))) _ counted in
    let (front, last) = all-parts word_sized (gather (λ tuple. tuple) excluded ++ encode c) (encode f) behind in
    let (tuples, middle) = all-parts word_sized (gather (λ tuple. tuple) excluded) (encode c) front in
    (sized-tuples v excluded long tuples, middle, last)

pub sized-some : (c : Tree) → all word_sized (encode (some c)) ≡ true → all word_sized (encode c) ≡ true
unfolding all encode
sized-some c e = and_right (word_sized (pos 10)) _ e

pub sized-trees :
    (t : Tree) (ts : Trees) →
    all word_sized (encode_all (cons t ts)) ≡ true →
    (all word_sized (encode t) ≡ true) × (all word_sized (encode_all ts) ≡ true)
unfolding encode
sized-trees t ts e = all-parts word_sized (encode t) (encode_all ts) e

mutual
  unfolding Formed good_tree

  pub formed-good :
      (t : Tree) (table : Words) (kind : Bool) (scope : ℕ) →
      Formed t table kind scope →
      all word_sized (encode t) ≡ true →
      good_tree t kind ≡ true
  formed-good (plain b) table kind scope h e = refl
  formed-good (atom b p ts) table kind scope (known, arity, one, six, inside) e =
      let (number, each) = sized-atom b p ts e in
      atom-good b p ts kind (record { number = number; some = one; few = six; each = each })
  formed-good (compare b d x y) table kind scope h e = sized-compare b d x y kind e
  formed-good (join b ts) table kind scope (two, each) e =
      and-true (le-leb 2 (count ts) two) (formed_goods ts table kind scope each (sized-join b ts e))
  formed-good (quantifier b v excluded c f) table kind scope (is, one, four, long, within, restrict, body) e =
      let (tuples, middle, last) = sized-quantifier b v excluded c f long e in
      quantifier-good b v excluded c f kind
      (record {
        kind = is;
        some = one;
        few = four;
        tuples = tuples;
        restriction = formed-good c table false (scope + v) restrict middle;
        body = formed-good f table true (scope + v) body last;
      })
  formed-good (some c) table kind scope (is, within, inner) e =
      and-true (ap not is) (formed-good c table false (scope + 1) inner (sized-some c e))

  formed_goods :
      (ts : Trees) (table : Words) (kind : Bool) (scope : ℕ) →
      FormedAll ts table kind scope →
      all word_sized (encode_all ts) ≡ true →
      good_trees ts kind ≡ true
  formed_goods nil table kind scope h e = refl
  formed_goods (cons t ts) table kind scope h e =
      let (first, others) = sized-trees t ts e in
      and-true (formed-good t table kind scope h.0 first) (formed_goods ts table kind scope h.1 others)

-- a number in range is a word of 32 bits, and so is one of two of them
number-sized : (n : ℕ) → n ≤ greatest_number → word_sized (pos n) ≡ true
unfolding word_sized
number-sized n h = le-leb n greatest_number h

either-sized : (b : Bool) (m n : ℕ) → m ≤ greatest_number → n ≤ greatest_number → word_sized (pos (cond b m n)) ≡ true
either-sized true m n h k = number-sized m h
either-sized false m n h k = number-sized n k

-- the words of good terms and tuples
term-sized : (t : Term) → good_term t ≡ true → all word_sized (encode_term t) ≡ true
unfolding all encode_term good_term
term-sized (constant k) e = and-true (number-sized 0 (omega arith)) (and-true e refl)
term-sized (variable x) e =
    and-true (number-sized 1 (omega arith)) (and-true (number-sized x (leb-true x greatest_number e)) refl)

terms-sized : (ts : List Term) → all good_term ts ≡ true → all word_sized (gather encode_term ts) ≡ true
unfolding all gather
terms-sized [] e = refl
terms-sized (t ∷ ts) e =
    all_append word_sized (encode_term t) (gather encode_term ts)
    (term-sized t (and_left (good_term t) _ e))
    (terms-sized ts (and_right (good_term t) _ e))

-- there are no more tuples than words of them
tuples-sized :
    (v : ℕ) (τs : List (List ℤ)) →
    1 ≤ v →
    all (good_tuple v) τs ≡ true →
    let ws = gather (λ tuple. tuple) τs in
    (all word_sized ws ≡ true) × (length τs ≤ length ws)
unfolding all gather
tuples-sized v [] one e = (refl, omega arith)
tuples-sized v (τ ∷ τs) one e =
    let (long, sized) = good-tuple v τ (and_left (good_tuple v τ) _ e) in
    let (rest, few) = tuples-sized v τs one (and_right (good_tuple v τ) _ e) in (
      all_append word_sized τ (gather (λ tuple. tuple) τs) sized rest,
      omega (arith, length-append τ (gather (λ tuple. tuple) τs)),
    )

mutual
  unfolding all encode

  good-words :
      (t : Tree) (kind : Bool) →
      good_tree t kind ≡ true →
      length (encode t) ≤ greatest_number →
      all word_sized (encode t) ≡ true
  good-words (plain b) kind good h = and-true (either-sized b 1 0 (omega arith) (omega arith)) refl
  good-words (atom b p ts) kind good h =
      let is = good-atom b p ts kind good in
      and-true (either-sized b 2 3 (omega arith) (omega arith))
      (and-true (number-sized p is.number)
      (and-true (number-sized (length ts) (omega (arith, is.few))) (terms-sized ts is.each)))
  good-words (compare b d x y) kind good h =
      let (sized, left, right) = good-compare b d x y kind good in
      and-true (either-sized b 4 5 (omega arith) (omega arith))
      (and-true sized (all_append word_sized (encode_term x) (encode_term y) (term-sized x left) (term-sized y right)))
  good-words (join b ts) kind good h =
      let each = (good-join b ts kind good).1 in
      and-true (either-sized b 6 7 (omega arith) (omega arith))
      (and-true (number-sized (count ts) (omega (arith, count-few ts))) (all_words ts kind each (omega arith)))
  good-words (quantifier b v excluded c f) kind good h =
      let is = good-quantifier b v excluded c f kind good in
      let τs = gather (λ tuple. tuple) excluded in
      let (tuples, few) = tuples-sized v excluded is.some is.tuples in
      let long = length-append τs (encode c) in
      let longer = length-append (τs ++ encode c) (encode f) in
      let restrict = good-words c false is.restriction (omega arith) in
      let body = good-words f true is.body (omega arith) in
      and-true (either-sized b 8 9 (omega arith) (omega arith))
      (and-true (number-sized v (omega (arith, is.few)))
      (and-true (number-sized (length excluded) (omega arith))
      (all_append word_sized (τs ++ encode c) (encode f) (all_append word_sized τs (encode c) tuples restrict) body)))
  good-words (some c) kind good h =
      and-true (number-sized 10 (omega arith)) (good-words c false (good-some c kind good).1 (omega arith))

  all_words :
      (ts : Trees) (kind : Bool) →
      good_trees ts kind ≡ true →
      length (encode_all ts) ≤ greatest_number →
      all word_sized (encode_all ts) ≡ true
  all_words nil kind good h = refl
  all_words (cons t ts) kind good h =
      let (first, rest) = good-trees t ts kind good in
      let long = length-append (encode t) (encode_all ts) in
      all_append word_sized (encode t) (encode_all ts)
      (good-words t kind first (omega arith))
      (all_words ts kind rest (omega arith))

-- a good tree of no more words than a policy can have
pub good-sized :
    (tree : Tree) →
    good_tree tree true ≡ true →
    length (encode tree) ≤ policy_limit →
    all word_sized (encode tree) ≡ true
good-sized tree good h = good-words tree true good (omega arith)

-- What it says that a tree is good by question 3, node by node, and for atoms and quantifiers also the other way round.
use Rattle.std.specs.Prelude.{ℕ, ◌≤◌, ◌≡◌, Bool, true, false, not, ◌&&◌, List, length, leb, eqb, ℤ}
use Rattle.std.proofs.Common.{leb-true, le-leb, eqb-true}
use Rattle.std.proofs.lemmas.Bool.{not-true}
use Rattle.model.specs.Words.{word_sized}
use Rattle.model.specs.Lists.{all}
use Rattle.model.specs.Tree.{Term, Tree, Trees, atom, compare, join, quantifier, some, cons, count}
use Rattle.model.specs.Tptp.{greatest_number, good_term, good_tuple, good_tree, good_trees}
use Rattle.laws.specs.Words.Tests.{and_left, and_right, and-true}

pub record GoodAtom (p : ℕ) (ts : List Term) : Type 0 where
  pub number : p ≤ greatest_number
  pub some : 1 ≤ length ts
  pub few : length ts ≤ 6
  pub each : all good_term ts ≡ true

pub good-atom : (b : Bool) (p : ℕ) (ts : List Term) (formula : Bool) → good_tree (atom b p ts) formula ≡ true → GoodAtom p ts
unfolding good_tree
good-atom b p ts formula e =
    let number = leb p greatest_number in
    let one = leb 1 (length ts) in
    let six = leb (length ts) 6 in
    let counts = and_left (number && one && six) _ e in
    let front = and_left (number && one) six counts in
    record {
      number = leb-true _ _ (and_left number one front);
      some = leb-true _ _ (and_right number one front);
      few = leb-true _ _ (and_right (number && one) six counts);
      each = and_right (number && one && six) _ e;
    }

pub atom-good : (b : Bool) (p : ℕ) (ts : List Term) (formula : Bool) → GoodAtom p ts → good_tree (atom b p ts) formula ≡ true
unfolding good_tree
atom-good b p ts formula is =
    let one = le-leb 1 (length ts) is.some in
    let six = le-leb (length ts) 6 is.few in
    and-true (and-true (and-true (le-leb p greatest_number is.number) one) six) is.each

pub good-compare :
    (b : Bool) (d : ℤ) (x y : Term) (formula : Bool) →
    good_tree (compare b d x y) formula ≡ true →
    (word_sized d ≡ true) × (good_term x ≡ true) × (good_term y ≡ true)
unfolding good_tree
good-compare b d x y formula e =
    let front = and_left (word_sized d && good_term x) (good_term y) e in
    (and_left (word_sized d) _ front, and_right (word_sized d) _ front, and_right (word_sized d && good_term x) _ e)

pub good-join :
    (b : Bool) (ts : Trees) (formula : Bool) →
    good_tree (join b ts) formula ≡ true →
    (2 ≤ count ts) × (good_trees ts formula ≡ true)
unfolding good_tree
good-join b ts formula e =
    (leb-true 2 (count ts) (and_left (leb 2 (count ts)) _ e), and_right (leb 2 (count ts)) _ e)

pub record GoodQuantifier (v : ℕ) (excluded : List (List ℤ)) (c f : Tree) (formula : Bool) : Type 0 where
  pub kind : formula ≡ true
  pub some : 1 ≤ v
  pub few : v ≤ 4
  pub tuples : all (good_tuple v) excluded ≡ true
  pub restriction : good_tree c false ≡ true
  pub body : good_tree f true ≡ true

pub good-quantifier :
    (b : Bool) (v : ℕ) (excluded : List (List ℤ)) (c f : Tree) (formula : Bool) →
    good_tree (quantifier b v excluded c f) formula ≡ true →
    GoodQuantifier v excluded c f formula
unfolding good_tree
good-quantifier b v excluded c f formula e =
    let one = leb 1 v in
    let four = leb v 4 in
    let tuples = all (good_tuple v) excluded in
    let all-but-body = and_left (formula && one && four && tuples && good_tree c false) _ e in
    let front = and_left (formula && one && four && tuples) _ all-but-body in
    let counts = and_left (formula && one && four) tuples front in
    let first = and_left (formula && one) four counts in
    record {
      kind = and_left formula one first;
      some = leb-true _ _ (and_right formula one first);
      few = leb-true _ _ (and_right (formula && one) four counts);
      tuples = and_right (formula && one && four) tuples front;
      restriction = and_right (formula && one && four && tuples) _ all-but-body;
      body = and_right (formula && one && four && tuples && good_tree c false) _ e;
    }

pub quantifier-good :
    (b : Bool) (v : ℕ) (excluded : List (List ℤ)) (c f : Tree) (formula : Bool) →
    GoodQuantifier v excluded c f formula →
    good_tree (quantifier b v excluded c f) formula ≡ true
unfolding good_tree
quantifier-good b v excluded c f formula is =
    let counts = and-true (and-true is.kind (le-leb 1 v is.some)) (le-leb v 4 is.few) in
    and-true (and-true (and-true counts is.tuples) is.restriction) is.body

pub good-some : (c : Tree) (formula : Bool) → good_tree (some c) formula ≡ true → (formula ≡ false) × (good_tree c false ≡ true)
unfolding good_tree
good-some c formula e = (not-true formula (and_left (not formula) _ e), and_right (not formula) _ e)

pub good-trees :
    (t : Tree) (ts : Trees) (formula : Bool) →
    good_trees (cons t ts) formula ≡ true →
    (good_tree t formula ≡ true) × (good_trees ts formula ≡ true)
unfolding good_tree
good-trees t ts formula e = (and_left (good_tree t formula) _ e, and_right (good_tree t formula) _ e)

pub good-tuple : (v : ℕ) (tuple : List ℤ) → good_tuple v tuple ≡ true → (length tuple ≡ v) × (all word_sized tuple ≡ true)
unfolding good_tuple
good-tuple v tuple e =
    (eqb-true (length tuple) v (and_left (eqb (length tuple) v) _ e), and_right (eqb (length tuple) v) _ e)

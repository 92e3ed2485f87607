-- What is good by question 3: of a tree whose words have 32 bits, exactly that its excluded tuples have as many numbers as the
-- quantifier has variables, so that the words are laid as the tree says, and that question 3, asked of the words, passes at each node.
use Rattle.std.specs.Prelude.{ℕ, ◌+◌, ◌*◌, ◌≡◌, refl, ◌↔◌, Bool, true, not, ◌&&◌, length, leb, pos}
use Rattle.std.proofs.Math.Path.{ap}
use Rattle.std.proofs.Common.{◌∙◌, le-leb}
use Rattle.model.specs.declared.Refusal.TheVariants.{Shape, Level, Predicate, Variable}
use Rattle.model.specs.Words.{Words, word, within, word_sized, level_limit}
use Rattle.model.specs.Lists.{all}
use Rattle.model.specs.Answer.{ask, ◌>>=◌}
use Rattle.model.specs.Tag.{Tag, tag_of}
use Rattle.model.specs.Tree.{Tree, Trees, plain, atom, compare, join, quantifier, some, nil, cons, count, encode, encode_all}
use Rattle.model.specs.Level.{Role, restriction, formula, under, cost}
use Rattle.model.specs.Reading.{is_formula, own, good_predicate, questions}
use Rattle.model.specs.Mode.{size}
use Rattle.model.specs.Tptp.{good_tree, good_trees}
use Rattle.laws.specs.Words.Tests.{and_left, and_right, and-true}
use Rattle.laws.specs.Words.Standing.{Stands, stands-whole, stands-left, stands-right, stands-first, stands-rest, two-stand}
use Rattle.laws.specs.Words.Standing.{three_stand, code, tag_code, at_least-value, within-value}
use Rattle.laws.specs.Reading.Formed.{AllOfLength}
use Rattle.laws.specs.Reading.Nodes.{under-kind, restriction-kind}
use Rattle.laws.specs.Reading.Trees.{OwnAsked, plain-asked, atom-asked, compare-asked, join-asked, quantifier-asked, some-asked}
use Rattle.laws.specs.Reading.Trees.{quantifier-parts, tuples-length}
use Rattle.laws.specs.Tptp.Spelling.Good.{atom-good, quantifier-good, good-join, good-quantifier, good-some, good-trees}
use Rattle.laws.specs.Tptp.Spelling.Sized.{sized-atom, sized-compare, sized-join, sized-quantifier, sized-some, sized-trees}

-- each excluded tuple has as many numbers as its quantifier has variables
unfoldable mutual
  pub Laid : Tree → Type 0
  Laid (plain b) = Unit {0}
  Laid (atom b p ts) = Unit {0}
  Laid (compare b d x y) = Unit {0}
  Laid (join b ts) = LaidAll ts
  Laid (quantifier b v excluded c f) = AllOfLength v excluded × Laid c × Laid f
  Laid (some c) = Laid c

  pub LaidAll : Trees → Type 0
  LaidAll nil = Unit {0}
  LaidAll (cons t ts) = Laid t × LaidAll ts

-- question 3 at the node at an index, as the reading asks it of the words
unfoldable pub third : Words → Role → ℕ → ℕ → Bool
third words role scope at =
    let node = own words (tag_of (word words at)) role scope at in node.shape && leb (at + node.size) (length words)

-- it is the first question of the reading at a node
pub third-first :
    (table words : Words) (role : Role) (above scope at : ℕ) →
    let tag = tag_of (word words at) in
    questions table words tag role above scope at
    ≡ (ask (third words role scope at) Shape at >>= λ _.
    ask (leb (above + cost role tag) level_limit) Level at >>= λ _.
    ask (good_predicate table words tag at) Predicate at >>= λ _.
    ask (own words tag role scope at).scope Variable at)
unfolding third questions
third-first table words role above scope at = refl

-- it passes at each node of a tree, where the node stands in the words
unfoldable mutual
  pub Shaped : Tree → Words → Role → ℕ → ℕ → Type 0
  Shaped (plain b) words role scope at = third words role scope at ≡ true
  Shaped (atom b p ts) words role scope at = third words role scope at ≡ true
  Shaped (compare b d x y) words role scope at = third words role scope at ≡ true
  Shaped (join b ts) words role scope at =
      (third words role scope at ≡ true) × ShapedAll ts words (under role b) scope (at + 2)
  Shaped (quantifier b v excluded c f) words role scope at =
      (third words role scope at ≡ true)
      × Shaped c words restriction (scope + v) (at + 3 + v * length excluded)
      × Shaped f words formula (scope + v) (at + 3 + v * length excluded + size c)
  Shaped (some c) words role scope at =
      (third words role scope at ≡ true) × Shaped c words restriction (scope + 1) (at + 1)

  pub ShapedAll : Trees → Words → Role → ℕ → ℕ → Type 0
  ShapedAll nil words role scope at = Unit {0}
  ShapedAll (cons t ts) words role scope at =
      Shaped t words role scope at × ShapedAll ts words role scope (at + size t)

-- the tuples of a good tree
mutual
  unfolding Laid

  good-laid : (t : Tree) (kind : Bool) → good_tree t kind ≡ true → Laid t
  good-laid (plain b) kind good = tt
  good-laid (atom b p ts) kind good = tt
  good-laid (compare b d x y) kind good = tt
  good-laid (join b ts) kind good = goods_laid ts kind (good-join b ts kind good).1
  good-laid (quantifier b v excluded c f) kind good =
      let is = good-quantifier b v excluded c f kind good in
      (tuples-length v excluded is.tuples, good-laid c _ is.restriction, good-laid f _ is.body)
  good-laid (some c) kind good = good-laid c _ (good-some c kind good).1

  goods_laid : (ts : Trees) (kind : Bool) → good_trees ts kind ≡ true → LaidAll ts
  goods_laid nil kind good = tt
  goods_laid (cons t ts) kind good =
      let (first, rest) = good-trees t ts kind good in (good-laid t kind first, goods_laid ts kind rest)

module _ (words : Words) where
  -- question 3 of a node whose tag is known
  third-tagged :
      (tag : Tag) (role : Role) (scope at : ℕ) →
      word words at ≡ pos (code tag) →
      third words role scope at ≡ true →
      (own words tag role scope at).shape ≡ true
  unfolding third
  third-tagged tag role scope at e h =
      let is = ap tag_of e ∙ tag_code tag in and_left (own words tag role scope at).shape _ (rw is at h)

  -- and where it is known to pass
  asked-third :
      {tag : Tag} {role : Role} {scope at : ℕ} {inside : Bool} →
      OwnAsked words tag role scope at inside →
      third words role scope at ≡ true
  unfolding third
  asked-third {tag} a =
      let is = ap tag_of a.tagged ∙ tag_code tag in rw is (and-true a.shape (le-leb _ _ a.fits))

  -- where the words of a good tree stand, question 3 passes at each node
  mutual
    unfolding Shaped encode size is_formula

    good_shaped :
        (t : Tree) (role : Role) (scope at next : ℕ) →
        good_tree t (is_formula role) ≡ true →
        Stands words at (encode t) next →
        Shaped t words role scope at
    good_shaped (plain b) role scope at next good s = asked-third (plain-asked words role scope at next b s)
    good_shaped (atom b p ts) role scope at next good s = asked-third (atom-asked words role scope at next b p ts good s)
    good_shaped (compare b d x y) role scope at next good s =
        asked-third (compare-asked words role scope at next b d x y good s)
    good_shaped (join b ts) role scope at next good s =
        let each : good_trees ts (is_formula (under role b)) ≡ true = rw under-kind (good-join b ts (is_formula role) good).1 in
        let (tagged, number, stand) = two-stand words _ _ _ s in (
          asked-third (join-asked words role scope at next b ts good s),
          goods_shaped ts (under role b) scope (at + 2) next each stand,
        )
    good_shaped (quantifier b v excluded c f) role scope at next good s =
        let is = good-quantifier b v excluded c f (is_formula role) good in
        let parts = quantifier-parts words at next b v excluded c f (tuples-length v excluded is.tuples) s in (
          asked-third (quantifier-asked words role scope at next b v excluded c f good parts),
          good_shaped c restriction (scope + v) _ _ is.restriction parts.inner,
          good_shaped f formula (scope + v) _ next is.body parts.body,
        )
    good_shaped (some c) role scope at next good s = (
      asked-third (some-asked words role scope at next c good s),
      good_shaped c restriction (scope + 1) (at + 1) next (good-some c (is_formula role) good).1 (stands-rest words _ _ s),
    )

    goods_shaped :
        (ts : Trees) (role : Role) (scope at next : ℕ) →
        good_trees ts (is_formula role) ≡ true →
        Stands words at (encode_all ts) next →
        ShapedAll ts words role scope at
    goods_shaped nil role scope at next good s = tt
    goods_shaped (cons t ts) role scope at next good s =
        let (first, rest) = good-trees t ts (is_formula role) good in (
          good_shaped t role scope at (at + size t) first (stands-left words (encode t) (encode_all ts) s),
          goods_shaped ts role scope (at + size t) next rest (stands-right words (encode t) (encode_all ts) s),
        )

  -- and where question 3 passes at each node, a tree of words of 32 bits is good
  mutual
    unfolding Laid Shaped encode size is_formula own code good_tree

    shaped_good :
        (t : Tree) (role : Role) (scope at next : ℕ) →
        all word_sized (encode t) ≡ true →
        Laid t →
        Stands words at (encode t) next →
        Shaped t words role scope at →
        good_tree t (is_formula role) ≡ true
    shaped_good (plain b) role scope at next sized laid s h = refl
    shaped_good (atom b p ts) role scope at next sized laid s h =
        let (tagged, predicate, number, stand) = three_stand words _ _ _ _ s in
        let shape = third-tagged (Tag.atom b) role scope at tagged h in
        let (same, one, six) = within-value 1 6 (pos (length ts)) (rw number at (and_left (within 1 6 (word words (at + 2))) _ shape)) in
        let (few, each) = sized-atom b p ts sized in
        atom-good b p ts (is_formula role) (record { number = few; some = one; few = six; each = each })
    shaped_good (compare b d x y) role scope at next sized laid s h = sized-compare b d x y (is_formula role) sized
    shaped_good (join b ts) role scope at next sized laid s (h, each) =
        let (tagged, number, stand) = two-stand words _ _ _ s in
        let shape = third-tagged (Tag.join b) role scope at tagged h in
        let (same, two) = at_least-value 2 (pos (count ts)) (rw number at shape) in
        let goods = shaped_goods ts (under role b) scope (at + 2) next (sized-join b ts sized) laid stand each in
        and-true (le-leb 2 (count ts) two) (rw under-kind at goods)
    shaped_good (quantifier b v excluded c f) role scope at next sized (long, inner, body) s (h, restrict, last) =
        let parts = quantifier-parts words at next b v excluded c f long s in
        let shape = third-tagged (Tag.quantifier b) role scope at parts.tagged h in
        let few = within 1 4 (word words (at + 1)) in
        let front = and_left (is_formula role && few) _ shape in
        let (same, one, four) = within-value 1 4 (pos v) (rw parts.variables at (and_right (is_formula role) few front)) in
        let (tuples, sized_c, sized_f) = sized-quantifier b v excluded c f long sized in
        quantifier-good b v excluded c f (is_formula role)
        (record {
          kind = and_left (is_formula role) few front;
          some = one;
          few = four;
          tuples = tuples;
          restriction = shaped_good c restriction (scope + v) _ _ sized_c inner parts.inner restrict;
          body = shaped_good f formula (scope + v) _ next sized_f body parts.body last;
        })
    shaped_good (some c) role scope at next sized laid s (h, inner) =
        let shape = third-tagged Tag.some role scope at (stands-first words _ _ s) h in
        let good = shaped_good c restriction (scope + 1) (at + 1) next (sized-some c sized) laid (stands-rest words _ _ s) inner in
        and-true (ap not (restriction-kind role shape)) good

    shaped_goods :
        (ts : Trees) (role : Role) (scope at next : ℕ) →
        all word_sized (encode_all ts) ≡ true →
        LaidAll ts →
        Stands words at (encode_all ts) next →
        ShapedAll ts words role scope at →
        good_trees ts (is_formula role) ≡ true
    shaped_goods nil role scope at next sized laid s h = refl
    shaped_goods (cons t ts) role scope at next sized (first, others) s (h, rest) =
        let (one, more) = sized-trees t ts sized in
        and-true
        (shaped_good t role scope at (at + size t) one first (stands-left words (encode t) (encode_all ts) s) h)
        (shaped_goods ts role scope (at + size t) next more others (stands-right words (encode t) (encode_all ts) s) rest)

-- a tree whose words have 32 bits is good exactly if its tuples are laid and question 3 passes at each node of its words
pub good_exactly :
    (tree : Tree) →
    all word_sized (encode tree) ≡ true →
    (good_tree tree true ≡ true) ↔ (Laid tree × Shaped tree (encode tree) formula 0 0)
unfolding is_formula
good_exactly tree sized = (
  λ good. (good-laid tree true good, good_shaped (encode tree) tree formula 0 0 _ good (stands-whole (encode tree))),
  λ h. shaped_good (encode tree) tree formula 0 0 _ sized h.0 (stands-whole (encode tree)) h.1,
)
